-- What an entry is, by what it says. Assumes nothing.
use Prim.Native.Nat.{ℕ, zero, suc, ◌+◌, ◌-◌}
use native.Mathlib.Omega.{arith}
use mathlib.Core.Path.{◌≡◌, refl}
use mathlib.Core.Bool.{true, false}
use Rattle.std.specs.Prelude.{Option, Some, None}
use Rattle.std.specs.Option.{is_some}
use Rattle.walk.specs.lists.Lists.{place_of, list_of}

pub place_some : (x q : ℕ) → Some q ≡ place_of x → x ≡ q + 1
place_some zero q e = cc
place_some (suc p) q e = let s : p ≡ q = cc in omega arith

pub place_none : (x : ℕ) → None ≡ place_of x → x ≡ 0
place_none zero e = refl
place_none (suc q) e = cc

pub is_none : (o : Option ℕ) (x : ℕ) → o ≡ place_of x → false ≡ is_some o → x ≡ 0
is_none None x e h = place_none x e
is_none (Some q) x e h = cc

pub is_held : (o : Option ℕ) (x : ℕ) → o ≡ place_of x → true ≡ is_some o → x ≡ (x - 1) + 1
is_held None x e h = cc
is_held (Some q) x e h = let p = place_some x q e in omega arith

list_some : (h p : ℕ) → list_of h ≡ Some (Some p) → h ≡ p + 2
list_some zero p e = cc
list_some (suc zero) p e = let s : ◌≡◌ {A = Option ℕ} None (Some p) = cc in cc
list_some (suc (suc q)) p e = let s : ◌≡◌ {A = Option ℕ} (Some q) (Some p) = cc in let t : q ≡ p = cc in omega arith

-- a list that has its last use at place p
pub list_ends : (o : Option (Option ℕ)) (l : Option ℕ) (h p : ℕ) → o ≡ list_of h → o ≡ Some l → l ≡ Some p → h ≡ p + 2
list_ends o l h p e f g = list_some h p cc
