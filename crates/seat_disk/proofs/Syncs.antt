-- Names that get one file after another, each synced ahead of that.
use Rattle.std.proofs.Common.{◌≡◌, ◌⊎◌, inl, inr, IsTrue, ◌∙◌, subst, sym}
use Rattle.seat_disk.specs.declared.synced.Synced.{Synced}
use Rattle.seat_disk.specs.Syncs.{NoneUnsynced}

-- of two steps neither gave the name to a file ahead of a sync of it
pub none_between : (one two three : Synced) → NoneUnsynced one two → NoneUnsynced two three → NoneUnsynced one three
none_between one two three first (inr synced) = inr synced
none_between one two three (inl same) (inl still) = inl (still ∙ same)
none_between one two three (inr synced) (inl still) = inr (subst IsTrue (sym still) synced)
