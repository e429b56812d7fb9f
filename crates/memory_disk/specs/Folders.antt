-- What a clause reads of a `Folder`.
use Rattle.std.specs.Prelude.{◌≡◌, ◌⊎◌, ℕ, Bool, ◌&&◌, not, if◌then◌else◌, List, length, map, take, IsTrue}
use Rattle.memory_disk.specs.declared.folder.Content.{Content}
use Rattle.memory_disk.specs.declared.folder.Folder.{Folder}
use Rattle.seat_disk.specs.declared.synced.Synced.{Synced}
use Rattle.seat_disk.specs.Leaving.{IsLeft}

-- `folder.bytes()`
abbrev pub named_bytes : Folder → List ℕ
named_bytes f = f.named.bytes.items

abbrev pub beside_bytes : Folder → List ℕ
beside_bytes f = f.beside.bytes.items

-- what a crash leaves of the file that has the name, and of the one beside it
abbrev pub named_leaves : Folder → List ℕ → Type 0
named_leaves f c = IsLeft f.named.is_synced f.named.bytes.items c

abbrev pub beside_leaves : Folder → List ℕ → Type 0
beside_leaves f c = IsLeft f.beside.is_synced f.beside.bytes.items c

-- what a crash leaves under the name: the file that has it, or the one that had it when the folder was synced
abbrev pub folder_leaves : Folder → List ℕ → Type 0
folder_leaves f c = named_leaves f c ⊎ (IsTrue f.is_renamed × IsLeft f.older.is_synced f.older.bytes.items c)

-- a file as a crash leaves it: as it is where it was synced, and else as many of `torn` as it has bytes
abbrev pub torn_content : Bool → List ℕ → List ℕ → List ℕ
torn_content is_synced bytes torn = if is_synced then bytes else take (length bytes) torn

-- what a crash leaves under the name: the older file where the folder was not synced since and the crash goes back to it
abbrev pub crashed_bytes : Folder → Bool → List ℕ → List ℕ
crashed_bytes f goes_back torn =
    if goes_back && f.is_renamed then torn_content f.older.is_synced f.older.bytes.items torn
    else torn_content f.named.is_synced f.named.bytes.items torn

-- the bytes of files
abbrev pub bytes_of_files : List Content → List (List ℕ)
bytes_of_files files = map (λ file. file.bytes.items) files

-- the files that were kept
abbrev pub kept_files : Folder → List (List ℕ)
kept_files f = bytes_of_files f.kept.items

-- a crash leaves each of these
abbrev pub are_left : List Content → List (List ℕ) → Type 0
are_left files left = left ≡ bytes_of_files files

-- a crash leaves each file that was kept
abbrev pub folder_keeps : Folder → List (List ℕ) → Type 0
folder_keeps f left = are_left f.kept.items left

-- the folder is synced where no renaming waits for it
abbrev pub folder_synced : Folder → Synced
folder_synced f = record { beside = f.beside.is_synced; file = f.named.is_synced; name = not f.is_renamed }
