-- Connected and closed wires, by the places of their uses. Assumes nothing.
use mathlib.Core.Path.{◌≡◌, refl, ◌∙◌}
use mathlib.Core.List.{List, [], ◌∷◌}
use Prim.Native.Nat.{ℕ, suc, ◌<◌}
use native.Mathlib.Omega.{arith}
use lib.ListN.{length, get_or}
use Rattle.rows.specs.wires.Connected.{Connected, last_back, Closes, Closed}

module _ (f b : ℕ → ℕ) where
  -- each back is the next front
  pub connected_by : (w : List ℕ) → ((i : ℕ) → suc i < length w → b (get_or w i 0) ≡ f (get_or w (suc i) 0)) → Connected f b w
  unfolding Connected
  connected_by [] h = tt
  connected_by (u ∷ []) h = tt
  connected_by (u ∷ v ∷ us) h = (h 0 (omega arith), connected_by (v ∷ us) (λ i k. h (suc i) (omega arith)))

  last_is : (u : ℕ) (us : List ℕ) → last_back b (b u) us ≡ b (get_or (u ∷ us) (length us) 0)
  unfolding last_back
  last_is u [] = refl
  last_is u (v ∷ us) = last_is v us

  -- and the last back is the first front
  pub closed_by : (w : List ℕ) → ((i : ℕ) → suc i < length w → b (get_or w i 0) ≡ f (get_or w (suc i) 0))
      → ((i : ℕ) → suc i ≡ length w → b (get_or w i 0) ≡ f (get_or w 0 0)) → Closed f b w
  unfolding Closes
  closed_by [] h g = (connected_by [] h, tt)
  closed_by (u ∷ us) h g = (connected_by (u ∷ us) h, last_is u us ∙ g (length us) refl)
