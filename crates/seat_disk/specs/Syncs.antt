-- What of a name and its files no call has changed since its last good sync. A real file, of whose bytes nothing is known, has this too.
use Rattle.std.specs.Prelude.{◌≡◌, ◌⊎◌, true, false, IsTrue}
use Rattle.seat_disk.specs.declared.synced.Synced.{Synced}

-- the new file beside the name was begun, or added to
abbrev pub changed : Synced → Synced
changed s = record { beside = false; file = s.file; name = s.name }

-- it was synced
abbrev pub kept_beside : Synced → Synced
kept_beside s = record { beside = true; file = s.file; name = s.name }

-- it has the name, and the folder was not synced since
abbrev pub renamed : Synced → Synced
renamed s = record { beside = false; file = s.beside; name = false }

-- the folder was synced
abbrev pub kept_name : Synced → Synced
kept_name s = record { beside = s.beside; file = s.file; name = true }

-- the name, and the file that has it, are on the disk
pub record AllSynced (s : Synced) : Type 0 where
  pub file : IsTrue s.file
  pub name : IsTrue s.name

-- of the name, and of the file that has it, as much is on the disk as was
pub record SameNames (old new : Synced) : Type 0 where
  pub file : new.file ≡ old.file
  pub name : new.name ≡ old.name

-- no file got the name ahead of a sync of it
abbrev pub NoneUnsynced : Synced → Synced → Type 0
NoneUnsynced old new = (new.file ≡ old.file) ⊎ IsTrue new.file

-- of two names all is on the disk
abbrev pub AreSynced : Synced → Synced → Type 0
AreSynced one other = AllSynced one × AllSynced other

-- no file got either name ahead of a sync of it
abbrev pub NeitherUnsynced : Synced → Synced → Synced → Synced → Type 0
NeitherUnsynced one_old one_new other_old other_new = NoneUnsynced one_old one_new × NoneUnsynced other_old other_new
