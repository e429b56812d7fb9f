-- Tests, and values behind them.
use Rattle.std.proofs.Common.{◌⊎◌, inl, inr, ◌≡◌, Bool, true, false, cond, ◌&&◌, Option, Some, None, refl}

-- a value behind a test
pub passed : {A : Type 0} (b : Bool) (x y : A) → cond b (Some x) None ≡ Some y → (b ≡ true) × (x ≡ y)
passed true x y e = (refl, cc)
passed false x y e = absurd cc

pub guarded : {A : Type 0} (b : Bool) (o : Option A) (y : A) → cond b o None ≡ Some y → (b ≡ true) × (o ≡ Some y)
guarded true o y e = (refl, e)
guarded false o y e = absurd cc

-- a value behind the first of two tests
pub chosen : {A : Type 0} (b : Bool) (x : A) (other : Option A) (y : A) → cond b (Some x) other ≡ Some y
    → ((b ≡ true) × (x ≡ y)) ⊎ (other ≡ Some y)
chosen true x other y e = inl (refl, cc)
chosen false x other y e = inr e

pub kept : {A : Type 0} (b : Bool) (o : Option A) → b ≡ true → cond b o None ≡ o
kept true o h = refl
kept false o h = absurd cc

pub second_of : {A : Type 0} (b : Bool) (x y : A) → b ≡ false → cond b x y ≡ y
second_of true x y h = absurd cc
second_of false x y h = refl

pub both_true : (a b : Bool) → (a && b) ≡ true → (a ≡ true) × (b ≡ true)
both_true true b e = (refl, e)
both_true false b e = absurd cc

pub both_are : (a b : Bool) → a ≡ true → b ≡ true → (a && b) ≡ true
both_are true b h k = k
both_are false b h k = absurd cc

pub some_is : {A : Type 0} (x y : A) → Some x ≡ Some y → x ≡ y
some_is x y e = cc

abbrev pub nothing : {A : Type 0} → Option A
nothing = None

pub none_some : {A : Type 0} (y : A) → nothing ≡ Some y → ⊥
none_some y e = cc
