-- A wire whose uses are replaced: where each use becomes a row that leads from its front to its back, a connected wire stays connected, and a
-- closed one closed. Assumes nothing.
use mathlib.Core.Path.{◌≡◌, refl, sym, ◌∙◌}
use mathlib.Core.List.{List, [], ◌∷◌, ◌++◌}
use Prim.Native.Nat.{ℕ, suc, ◌<◌}
use native.Mathlib.Omega.{arith}
use lib.ListN.{length, get_or}
use Rattle.rows.specs.wires.Connected.{Connected, last_back, Closes, Closed, replaced}

-- the uses lead from vertex a to vertex z
unfoldable pub Leads : (front back : ℕ → ℕ) → ℕ → List ℕ → ℕ → Type 0
Leads f b a [] z = a ≡ z
Leads f b a (u ∷ us) z = (f u ≡ a) × Leads f b (b u) us z

module _ (f b : ℕ → ℕ) where
  -- a connected wire leads from its first front to its last back, and what leads somewhere is connected
  leads_from : (u : ℕ) (us : List ℕ) → Connected f b (u ∷ us) → Leads f b (b u) us (last_back b (b u) us)
  unfolding Leads Connected last_back
  leads_from u [] c = refl
  leads_from u (v ∷ us) c = (sym c.0, leads_from v us c.1)

  pub leads_connected : (us : List ℕ) (a z : ℕ) → Leads f b a us z → Connected f b us
  unfolding Leads Connected
  leads_connected [] a z l = tt
  leads_connected (u ∷ []) a z l = tt
  leads_connected (u ∷ v ∷ us) a z l = (sym l.1.0, leads_connected (v ∷ us) (b u) z l.1)

  leads_back : (us : List ℕ) (a z : ℕ) → Leads f b a us z → last_back b a us ≡ z
  unfolding Leads last_back
  leads_back [] a z l = l
  leads_back (u ∷ us) a z l = leads_back us (b u) z l.1

  pub leads_closed : (us : List ℕ) (a : ℕ) → Leads f b a us a → Closed f b us
  unfolding Leads Closes
  leads_closed [] a l = (leads_connected [] a a l, tt)
  leads_closed (u ∷ us) a l = (leads_connected (u ∷ us) a a l, leads_back us (b u) a l.1 ∙ sym l.0)

  pub leads_append : (xs ys : List ℕ) (a m z : ℕ) → Leads f b a xs m → Leads f b m ys z → Leads f b a (xs ++ ys) z
  unfolding Leads
  leads_append [] ys a m z p q = rw p q
  leads_append (u ∷ xs) ys a m z p q = (p.0, leads_append xs ys (b u) m z p.1 q)

  pub leads_none : (a z : ℕ) → a ≡ z → Leads f b a [] z
  unfolding Leads
  leads_none a z p = p

  pub leads_first : (u : ℕ) (us : List ℕ) (a z : ℕ) → f u ≡ a → Leads f b (b u) us z → Leads f b a (u ∷ us) z
  unfolding Leads
  leads_first u us a z p q = (p, q)

  pub leads_one : (u : ℕ) → Leads f b (f u) (u ∷ []) (b u)
  unfolding Leads
  leads_one u = (refl, refl)

  pub leads_two : (u v a z : ℕ) → f u ≡ a → b u ≡ f v → b v ≡ z → Leads f b a (u ∷ v ∷ []) z
  unfolding Leads
  leads_two u v a z p q r = (p, (sym q, r))

-- fronts and backs before are f and b, and after are g and d; P holds of every use
module _ (f b g d : ℕ → ℕ) (r : ℕ → List ℕ) (P : ℕ → Type 0) (leads : (u : ℕ) → P u → Leads g d (f u) (r u) (b u)) where
  unfoldable Every : List ℕ → Type 0
  Every us = (k : ℕ) → k < length us → P (get_or us k 0)

  rest : (u : ℕ) (us : List ℕ) → Every (u ∷ us) → Every us
  unfolding Every
  rest u us h = λ k lt. h (suc k) (omega arith)

  here : (u : ℕ) (us : List ℕ) → Every (u ∷ us) → P u
  unfolding Every
  here u us h = h 0 (omega arith)

  replaced_leads : (us : List ℕ) (a z : ℕ) → Every us → Leads f b a us z → Leads g d a (replaced r us) z
  unfolding Leads replaced
  replaced_leads [] a z h l = l
  replaced_leads (u ∷ us) a z h l =
      leads_append g d (r u) (replaced r us) a (b u) z (rw (← l.0) (leads u (here u us h))) (replaced_leads us (b u) z (rest u us h) l.1)

  leads_whole : (u : ℕ) (us : List ℕ) → Connected f b (u ∷ us) → Leads f b (f u) (u ∷ us) (last_back b (b u) us)
  unfolding Leads
  leads_whole u us c = (refl, leads_from f b u us c)

  pub replaced_connected : (w : List ℕ) → ((k : ℕ) → k < length w → P (get_or w k 0)) → Connected f b w → Connected g d (replaced r w)
  unfolding replaced Every
  replaced_connected [] h c = leads_connected g d [] 0 0 (leads_none g d 0 0 refl)
  replaced_connected (u ∷ us) h c =
      leads_connected g d (replaced r (u ∷ us)) (f u) (last_back b (b u) us) (replaced_leads (u ∷ us) (f u) (last_back b (b u) us) h (leads_whole u us c))

  pub replaced_closed : (w : List ℕ) → ((k : ℕ) → k < length w → P (get_or w k 0)) → Closed f b w → Closed g d (replaced r w)
  unfolding replaced Every Closes
  replaced_closed [] h c = leads_closed g d [] 0 (leads_none g d 0 0 refl)
  replaced_closed (u ∷ us) h c =
      let l : Leads f b (f u) (u ∷ us) (f u) = rw c.1 at (leads_whole u us c.0) in
      leads_closed g d (replaced r (u ∷ us)) (f u) (replaced_leads (u ∷ us) (f u) (f u) h l)
