-- The names of files: the folder that one lies in, and a name that is relative to a folder.
use Rattle.std.specs.Prelude.{◌≡◌, ◌≢◌, ℕ, ◌<◌, ◌==◌, if◌then◌else◌, Bool, false, List, [], ◌∷◌, ◌++◌, length, get_or, Option, Some, None, codes}

abbrev pub HasNoSlash : List ℕ → Type 0
HasNoSlash name = (i : ℕ) → i < length name → get_or name i 0 ≢ 47

-- the file's name is that folder, a slash, and a name without one
pub record IsFolderOf (file folder : List ℕ) : Type 0 where
  pub name : List ℕ
  pub whole : file ≡ folder ++ 47 ∷ name
  pub last : HasNoSlash name

abbrev pub begins_with : ℕ → List ℕ → Bool
begins_with byte [] = false
begins_with byte (first ∷ rest) = first == byte

-- the name in a folder, where there is one
abbrev pub in_folder : Option (List ℕ) → List ℕ → List ℕ
in_folder None name = name
in_folder (Some folder) name = folder ++ (codes "/" ++ name)

-- a name that is no option
abbrev pub guarded : List ℕ → List ℕ
guarded path = if begins_with 45 path then codes "./" ++ path else path

-- a season's name of a file, as a word of the command line: the name itself where it begins with a slash
abbrev pub path_in : Option (List ℕ) → List ℕ → List ℕ
path_in folder name = guarded (if begins_with 47 name then name else in_folder folder name)
