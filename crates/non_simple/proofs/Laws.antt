-- What the search answers: two vertices that are fronts of uses of one wire. Assumes nothing.
use mathlib.Core.Path.{◌≡◌, refl}
use mathlib.Core.Bool.{Bool, true, false}
use mathlib.Core.Logic.{⊎_elim}
use mathlib.Core.List.Memᴰ
use mathlib.Core.List.{List, [], ◌∷◌, ◌++◌, Memᴰ}
use Prim.Native.Nat.{ℕ, zero, suc, ◌+◌, ◌-◌}
use lib.Dec.{ltb}
use lib.ListN.{length, get_or, take, drop}
use Rattle.compress.specs.declared.Edge.{Edge}
use Rattle.compress.specs.declared.Vertex.{Vertex}
use Rattle.compress.specs.Records.{pick, front_at}
use Rattle.compress.specs.Rows.{edge_at, vertex_at}
use Rattle.compress.specs.Said.{Said, result, none, refused, refused_or}
use Rattle.compress.specs.Wires.{wires_of}
use Rattle.rows.specs.wires.Turn.{turned}
use Rattle.correction.specs.declared.nearest.Ends.{Ends}
use Rattle.correction.specs.nearest.Ends.{fronts_of, nearest_front, nearest_ends, ends_from}
use Rattle.correction.proofs.nearest.Laws.{front_member}
use Rattle.std.specs.Prelude.{Option, Some, None}
use Rattle.non_simple.specs.declared.loops.Pair.{Pair}
use Rattle.non_simple.specs.loops.Loop.{first_repeat}
use Rattle.non_simple.specs.divisor.Divided.{half_up, second_pair, stretch, divided_by, turned_divisor}
use Rattle.compress.specs.Shell.{Lent}
use Rattle.non_simple.specs.Search.{divisor_from, wire_divisor, or_next, find_divisor, search_cause, divisor_in, find_non_simple}

module _ (es : ℕ → Edge) (vs : ℕ → Vertex) where
  -- vertex v is the front of a use of the wire
  abbrev pub IsFront : ℕ → List ℕ → Type 0
  IsFront v w = Memᴰ v (fronts_of es w)

  no_front : {v : ℕ} {A : Type 0} → IsFront v [] → A
  unfolding fronts_of
  no_front m = absurd (Memᴰ.not-nil m)

  -- a front of a wire with one more use is that use's, or of the others
  front_cases : {A : Type 0} (v u : ℕ) (us : List ℕ) → IsFront v (u ∷ us) → (v ≡ front_at es u → A) → (IsFront v us → A) → A
  unfolding fronts_of
  front_cases v u us m f g = ⊎_elim f g (Memᴰ.cases_cons m)

  front_head : (v u : ℕ) (us : List ℕ) → v ≡ front_at es u → IsFront v (u ∷ us)
  unfolding fronts_of
  front_head v u us e = Memᴰ.head e

  front_tail : (v u : ℕ) (us : List ℕ) → IsFront v us → IsFront v (u ∷ us)
  unfolding fronts_of
  front_tail v u us m = Memᴰ.tail m

  front_of_take : (n : ℕ) (w : List ℕ) (v : ℕ) → IsFront v (take n w) → IsFront v w
  front_of_take zero w v m = no_front m
  front_of_take (suc n) [] v m = m
  front_of_take (suc n) (u ∷ us) v m = front_cases v u (take n us) m (front_head v u us) (λ t. front_tail v u us (front_of_take n us v t))

  front_of_drop : (n : ℕ) (w : List ℕ) (v : ℕ) → IsFront v (drop n w) → IsFront v w
  front_of_drop zero w v m = m
  front_of_drop (suc n) [] v m = m
  front_of_drop (suc n) (u ∷ us) v m = front_tail v u us (front_of_drop n us v m)

  front_of_both : {A : Type 0} (a b : List ℕ) (v : ℕ) → IsFront v (a ++ b) → (IsFront v a → A) → (IsFront v b → A) → A
  front_of_both [] b v m f g = g m
  front_of_both (u ∷ a) b v m f g =
      front_cases v u (a ++ b) m (λ e. f (front_head v u a e)) (λ t. front_of_both a b v t (λ i. f (front_tail v u a i)) g)

  front_of_turned : (i : ℕ) (w : List ℕ) (v : ℕ) → IsFront v (turned i w) → IsFront v w
  unfolding turned
  front_of_turned i w v m = front_of_both (drop i w) (take i w) v m (front_of_drop i w v) (front_of_take i w v)

  front_of_stretch : (w : List ℕ) (a b v : ℕ) → IsFront v (stretch w a b) → IsFront v w
  front_of_stretch w a b v m = front_of_drop a w v (front_of_take (b - a) (drop a w) v m)

  -- both vertices of an answer are fronts, of wires a and b; "none" and a refusal name no vertex
  abbrev pub Names : List ℕ → List ℕ → Said Ends → Type 0
  Names a b (result d) = IsFront d.v0 a × IsFront d.v1 b
  Names a b none = Unit
  Names a b (refused n) = Unit

  widen : (a b c d : List ℕ) (s : Said Ends) → ((v : ℕ) → IsFront v a → IsFront v c) → ((v : ℕ) → IsFront v b → IsFront v d) → Names a b s → Names c d s
  widen a b c d (result r) f g m = (f r.v0 m.0, g r.v1 m.1)
  widen a b c d none f g m = tt
  widen a b c d (refused n) f g m = tt

  ends_from_named : (v1 : ℕ) (a b : List ℕ) → IsFront v1 b → Names a b (ends_from es vs v1 a)
  ends_from_named v1 [] b m = tt
  ends_from_named v1 (u ∷ us) b m = (front_member es vs v1 u us, m)

  -- nearest ends: one front of each stretch
  pub ends_named : (v0 : ℕ) (a b : List ℕ) → Names a b (nearest_ends es vs v0 a b)
  unfolding nearest_ends
  ends_named v0 a [] = tt
  ends_named v0 a (u ∷ us) = ends_from_named (nearest_front es vs v0 u us) a (u ∷ us) (front_member es vs v0 u us)

  pick_named : (b : Bool) (a c : List ℕ) (s : Said Ends) → Names a c s → Names a c (pick b s (refused 8))
  pick_named true a c s m = m
  pick_named false a c s m = tt

  turned_named : (w : List ℕ) (j0 : ℕ) → Names w w (turned_divisor es vs w j0)
  unfolding turned_divisor divided_by
  turned_named w j0 =
      let s = second_pair (first_repeat (j0 + 1) w) j0 (length w) in
      let v0 = front_at es (get_or w (half_up j0) 0) in
      let a = stretch w 1 j0 in
      let b = stretch w (s.earlier + 1) s.later in
      let said = nearest_ends es vs v0 a b in
      pick_named (ltb (half_up (s.earlier + s.later)) (length w)) w w said
      (widen a b w w said (front_of_stretch w 1 j0) (front_of_stretch w (s.earlier + 1) s.later) (ends_named v0 a b))

  repeat_named : (w : List ℕ) (r : Option Pair) → Names w w (divisor_from es vs w r)
  repeat_named w None = tt
  repeat_named w (Some p) =
      let i = p.earlier in
      let j0 = p.later - i in
      widen (turned i w) (turned i w) w w (turned_divisor es vs (turned i w) j0) (front_of_turned i w) (front_of_turned i w) (turned_named (turned i w) j0)

  -- one wire: both vertices are fronts of its uses
  pub wire_named : (w : List ℕ) → Names w w (wire_divisor es vs w)
  unfolding wire_divisor
  wire_named w = repeat_named w (first_repeat 0 w)

  -- one of the wires has both
  pub record Named (d : Ends) (ws : List (List ℕ)) : Type 0 where
    pub wire : List ℕ
    pub stands : Memᴰ wire ws
    pub first : IsFront d.v0 wire
    pub second : IsFront d.v1 wire

  abbrev pub NamesOne : List (List ℕ) → Said Ends → Type 0
  NamesOne ws (result d) = Named d ws
  NamesOne ws none = Unit
  NamesOne ws (refused n) = Unit

  later_named : (w : List ℕ) (ws : List (List ℕ)) (s : Said Ends) → NamesOne ws s → NamesOne (w ∷ ws) s
  later_named w ws (result d) m = record { wire = m.wire; stands = Memᴰ.tail m.stands; first = m.first; second = m.second }
  later_named w ws none m = tt
  later_named w ws (refused n) m = tt

  next_named : (w : List ℕ) (ws : List (List ℕ)) (s next : Said Ends) → Names w w s → NamesOne ws next → NamesOne (w ∷ ws) (or_next s next)
  next_named w ws (result d) next m later = record { wire = w; stands = Memᴰ.head refl; first = m.0; second = m.1 }
  next_named w ws none next m later = later_named w ws next later
  next_named w ws (refused n) next m later = tt

  -- the search over all wires
  pub search_named : (ws : List (List ℕ)) → NamesOne ws (find_divisor es vs ws)
  unfolding find_divisor
  search_named [] = tt
  search_named (w ∷ ws) = next_named w ws (wire_divisor es vs w) (find_divisor es vs ws) (wire_named w) (search_named ws)

  refused_named : (cause : ℕ) (ws : List (List ℕ)) (s : Said Ends) → NamesOne ws s → NamesOne ws (refused_or cause s)
  refused_named zero ws s m = m
  refused_named (suc n) ws s m = tt

-- the call: what it answers are fronts of uses of one of the wires lent
pub call_named : (l : Lent)
    → NamesOne (edge_at l.slices.en l.slices.ef) (vertex_at l.slices.vn l.slices.vf) (wires_of l.slices.us (take l.wires l.slices.ls)) (find_non_simple l)
unfolding find_non_simple
call_named l =
    let es = edge_at l.slices.en l.slices.ef in
    let vs = vertex_at l.slices.vn l.slices.vf in
    let ws = wires_of l.slices.us (take l.wires l.slices.ls) in
    refused_named es vs (search_cause l) ws (divisor_in l) (search_named es vs ws)
