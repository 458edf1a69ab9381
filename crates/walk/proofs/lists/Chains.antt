-- The chains of the tables: what filling and taking do to them.
-- Assumes nothing.
use Prim.Native.Nat.{ℕ, zero, suc, ◌+◌, ◌-◌, ◌≤◌, ◌<◌}
use native.Mathlib.Numerals.{add-one}
use native.Mathlib.Omega.{arith}
use mathlib.Core.Path.{◌≡◌, refl, sym, ap, subst, ◌∙◌}
use mathlib.Core.Logic.{◌≢◌}
use mathlib.Core.Bool.{Bool}
use mathlib.Core.List.{List, [], ◌∷◌, ◌++◌, append-nil}
use lib.ListN.{length, take, drop, get_or, set, length-append, length-set, drop_of_length-le}
use lib.Seq.{take-suc, take_all, take_at, get_or_at, get_or-set_same, get_or-set_other}
use borrow.Author.Tests.{ne_eqb}
use Rattle.std.proofs.Common.{⊎_elim}
use Rattle.std.proofs.lemmas.Bool.{cases_eq}
use Rattle.walk.specs.lists.Members.{without, put, at, sits, del}
use Rattle.walk.proofs.lists.Members.{at_same, at_other, at_more, filter_snoc}
use Rattle.walk.specs.lists.Lists.{Chain, none, some, entry_of, heads_after, nexts_after, Lists}

module _ (front : ℕ → ℕ) (us nx : List ℕ) (n v : ℕ) where
  pub chain_none : (h : ℕ) (l : List ℕ) → h ≡ 0 → Chain front us nx n v h l → l ≡ []
  chain_none h l e (none z q) = q
  chain_none h l e (some p m hp lt f c q) = absurd (omega arith)

  pub record Node (p : ℕ) (l : List ℕ) : Type 0 where
    pub before : List ℕ
    pub below : p < n
    pub sits_at : front (get_or us p 0) ≡ v
    pub chain : Chain front us nx n v (get_or nx p 0) before
    pub is : l ≡ before ++ (get_or us p 0 ∷ [])

  pub chain_some : (h p : ℕ) (l : List ℕ) → h ≡ p + 1 → Chain front us nx n v h l → Node p l
  chain_some h p l e (none z q) = absurd (omega arith)
  chain_some h p l e (some r m hp lt f c q) =
      subst (λ (k : ℕ). Node k l) (omega arith) (record { before = m; below = lt; sits_at = f; chain = c; is = q })

  -- a store at a place of another vertex
  pub chain_set : (q x h : ℕ) (l : List ℕ) → front (get_or us q 0) ≢ v → Chain front us nx n v h l → Chain front us (set nx q x) n v h l
  chain_set q x h l d (none z e) = none z e
  chain_set q x h l d (some p m hp lt f c e) =
      let o : p ≢ q = λ g. d (ap (λ (k : ℕ). front (get_or us k 0)) (sym g) ∙ f) in
      some p m hp lt f (subst (λ (k : ℕ). Chain front us (set nx q x) n v k m) (sym (get_or-set_other nx q p x 0 o)) (chain_set q x (get_or nx p 0) m d c)) e

  -- a store at the first place that no chain has
  pub chain_grow : (x h : ℕ) (l : List ℕ) → Chain front us nx n v h l → Chain front us (set nx n x) (n + 1) v h l
  chain_grow x h l (none z e) = none z e
  chain_grow x h l (some p m hp lt f c e) =
      let o : p ≢ n = λ g. omega arith in
      some p m hp (omega arith) f (subst (λ (k : ℕ). Chain front us (set nx n x) (n + 1) v k m) (sym (get_or-set_other nx n p x 0 o)) (chain_grow x (get_or nx p 0) m c)) e

-- what holds of every entry holds after a store of an entry of which it holds
pub set_all : (P : ℕ → Type 0) (l : List ℕ) (i x : ℕ) → ((k : ℕ) → P (get_or l k 0)) → P x → (k : ℕ) → P (get_or (set l i x) k 0)
set_all P [] i x h hx k = h k
set_all P (y ∷ l) zero x h hx zero = hx
set_all P (y ∷ l) zero x h hx (suc k) = h (suc k)
set_all P (y ∷ l) (suc i) x h hx zero = h 0
set_all P (y ∷ l) (suc i) x h hx (suc k) = set_all P l i x (λ j. h (suc j)) hx k

-- the head of a list that goes on at m leads there, and is 0 where nothing is left
pub entry_leads : (m : ℕ) → entry_of m - 1 ≡ m
entry_leads zero = refl
entry_leads (suc m) = omega arith

pub entry_some : (m a : ℕ) → m ≡ a + 1 → entry_of m ≡ m + 1
entry_some zero a e = absurd (omega arith)
entry_some (suc m) a e = refl

pub entry_not_empty : (m : ℕ) → entry_of m ≢ 1
entry_not_empty zero e = omega arith
entry_not_empty (suc m) e = omega arith

pub entry_small : (m n : ℕ) → m ≤ n → entry_of m ≤ n + 1
entry_small zero n h = omega arith
entry_small (suc m) n h = omega arith

-- a list without its last member
pub last_is : (m : List ℕ) (u : ℕ) → get_or (m ++ (u ∷ [])) (length (m ++ (u ∷ [])) - 1) 0 ≡ u
last_is m u =
    let e : length (m ++ (u ∷ [])) - 1 ≡ length m = omega (arith, length-append m (u ∷ [])) in
    ap (λ (k : ℕ). get_or (m ++ (u ∷ [])) k 0) e ∙ get_or_at m u [] 0 (length m) refl

pub without_last : (m : List ℕ) (u : ℕ) → without (m ++ (u ∷ [])) (length (m ++ (u ∷ [])) - 1) ≡ m
without_last m u =
    let e : length (m ++ (u ∷ [])) - 1 ≡ length m = omega (arith, length-append m (u ∷ [])) in
    let d : drop (suc (length m)) (m ++ (u ∷ [])) ≡ [] = drop_of_length-le (m ++ (u ∷ [])) {i = suc (length m)} (omega (arith, length-append m (u ∷ []))) in
    ap (λ (k : ℕ). without (m ++ (u ∷ [])) k) e
    ∙ ap (λ (l : List ℕ). l ++ drop (suc (length m)) (m ++ (u ∷ []))) (take_at m (u ∷ []) (length m) refl)
    ∙ ap (λ (l : List ℕ). m ++ l) d ∙ append-nil m

module _ (front : ℕ → ℕ) (us : List ℕ) where
  -- ---- filling

  lists_start : {hd nx : List ℕ} → length hd ≡ 4096 → length nx ≡ 1024 → ((v : ℕ) → get_or hd v 0 ≡ 0) → ((p : ℕ) → get_or nx p 0 ≡ 0) → Lists front us 0 hd nx []
  lists_start {hd} lh ln eh en = record {
    long_heads = lh;
    long_nexts = ln;
    tables = record { heads = λ v. omega (arith, eh v); nexts = λ p. omega (arith, en p) };
    chains = λ v. let z : get_or hd v 0 - 1 ≡ 0 = omega (arith, eh v) in none z refl;
    dropped = λ v e. omega (arith, eh v);
  }

  lists_more : (hd nx : List ℕ) (i : ℕ) → Lists front us i hd nx (take i us) → i < length us → i < 1024 → front (get_or us i 0) < 4096
      → Lists front us (i + 1) (set hd (front (get_or us i 0)) (i + 2)) (set nx i (get_or hd (front (get_or us i 0)) 0 - 1)) (take (i + 1) us)
  lists_more hd nx i L lt in-nx in-hd =
      let hn : i < length nx = omega (arith, L.long_nexts) in
      let hh : front (get_or us i 0) < length hd = omega (arith, L.long_heads) in
      let u = get_or us i 0 in
      let w = front u in
      let m = get_or hd w 0 - 1 in
      let t : take (i + 1) us ≡ take i us ++ (u ∷ []) = ap (λ (k : ℕ). take k us) (add-one i) ∙ take-suc us i 0 lt in
      let same : (v : ℕ) → v ≡ w → Chain front us (set nx i m) (i + 1) v (get_or (set hd w (i + 2)) v 0 - 1) (at front v (take (i + 1) us))
      = λ v e. subst (λ (k : ℕ). Chain front us (set nx i m) (i + 1) k (get_or (set hd w (i + 2)) k 0 - 1) (at front k (take (i + 1) us))) (sym e)
      (some i (at front w (take i us)) (omega (arith, get_or-set_same hd w (i + 2) 0 hh)) (omega arith) refl
      (subst (λ (k : ℕ). Chain front us (set nx i m) (i + 1) w k (at front w (take i us))) (sym (get_or-set_same nx i m 0 hn))
      (chain_grow front us nx i w m m (at front w (take i us)) (L.chains w)))
      (ap (at front w) t ∙ at_more front (take i us) u)) in
      let other : (v : ℕ) → v ≢ w → Chain front us (set nx i m) (i + 1) v (get_or (set hd w (i + 2)) v 0 - 1) (at front v (take (i + 1) us))
      = λ v d.
      let a : at front v (take (i + 1) us) ≡ at front v (take i us)
      = ap (at front v) t ∙ filter_snoc front (sits front v) (take i us) u ∙ ap (λ (b : Bool). at front v (take i us) ++ put b u []) (ne_eqb w v (λ g. d (sym g))) ∙ append-nil (at front v (take i us)) in
      subst (λ (l : List ℕ). Chain front us (set nx i m) (i + 1) v (get_or (set hd w (i + 2)) v 0 - 1) l) (sym a)
      (subst (λ (k : ℕ). Chain front us (set nx i m) (i + 1) v (k - 1) (at front v (take i us))) (sym (get_or-set_other hd w v (i + 2) 0 d))
      (chain_grow front us nx i v m (get_or hd v 0 - 1) (at front v (take i us)) (L.chains v))) in
      record {
        long_heads = length-set hd w (i + 2) ∙ L.long_heads;
        long_nexts = length-set nx i m ∙ L.long_nexts;
        tables = record {
          heads = set_all (λ (y : ℕ). y ≤ (i + 1) + 1) hd w (i + 2) (λ k. omega (arith, L.tables.heads k)) (omega arith);
          nexts = set_all (λ (y : ℕ). y ≤ i + 1) nx i m (λ k. omega (arith, L.tables.nexts k)) (omega (arith, L.tables.heads w));
        };
        chains = λ v. ⊎_elim (same v) (other v) (cases_eq v w);
        dropped = set_all (λ (y : ℕ). y ≢ 1) hd w (i + 2) L.dropped (λ e. omega arith);
      }

  -- all uses pushed on tables of zeros
  lists_filled : {hd nx : List ℕ} → Lists front us 0 hd nx [] → length us ≤ 1024 → ((i : ℕ) → i < length us → front (get_or us i 0) < 4096)
      → (i : ℕ) → i ≤ length us → Lists front us i (heads_after front us hd i) (nexts_after front us hd nx i) (take i us)
  lists_filled L few small zero h = L
  lists_filled {hd} {nx} L few small (suc i) h =
      rw (← add-one i) (lists_more (heads_after front us hd i) (nexts_after front us hd nx i) i (lists_filled L few small i (omega arith)) (omega arith) (omega arith) (small i (omega arith)))

  pub lists_all : (hd nx : List ℕ) → length hd ≡ 4096 → length nx ≡ 1024 → ((v : ℕ) → get_or hd v 0 ≡ 0) → ((p : ℕ) → get_or nx p 0 ≡ 0)
      → length us ≤ 1024 → ((i : ℕ) → i < length us → front (get_or us i 0) < 4096)
      → Lists front us (length us) (heads_after front us hd (length us)) (nexts_after front us hd nx (length us)) us
  lists_all hd nx lh ln eh en few small =
      let t : take (length us) us ≡ us = take_all (length us) us (omega arith) in
      subst (λ (l : List ℕ). Lists front us (length us) (heads_after front us hd (length us)) (nexts_after front us hd nx (length us)) l) t
      (lists_filled (lists_start lh ln eh en) few small (length us) (omega arith))

  -- ---- taking

  module _ (n : ℕ) (hd nx rest : List ℕ) (L : Lists front us n hd nx rest) (v p : ℕ) (hp : get_or hd v 0 ≡ p + 2) where
    leads : get_or hd v 0 - 1 ≡ p + 1
    leads = omega arith

    pub node : Node front us nx n v p (at front v rest)
    node = chain_some front us nx n v (get_or hd v 0 - 1) p (at front v rest) leads (L.chains v)

    -- the last
    pub lists_last : v < 4096 → Lists front us n (set hd v (entry_of (get_or nx p 0))) nx (del (sits front v) (length (at front v rest) - 1) rest)
    lists_last small =
        let hv : v < length hd = omega (arith, L.long_heads) in
        let k = length (at front v rest) - 1 in
        let x = entry_of (get_or nx p 0) in
        let hd' = set hd v x in
        let rest' = del (sits front v) k rest in
        let m = node.before in
        let gone : at front v rest' ≡ m = at_same front v k rest ∙ ap (λ (l : List ℕ). without l (length l - 1)) node.is ∙ without_last m (get_or us p 0) in
        let to : get_or hd' v 0 - 1 ≡ get_or nx p 0 = ap (λ (j : ℕ). j - 1) (get_or-set_same hd v x 0 hv) ∙ entry_leads (get_or nx p 0) in
        let same : (w : ℕ) → w ≡ v → Chain front us nx n w (get_or hd' w 0 - 1) (at front w rest')
        = λ w e. subst (λ (j : ℕ). Chain front us nx n j (get_or hd' j 0 - 1) (at front j rest')) (sym e)
        (subst (λ (l : List ℕ). Chain front us nx n v (get_or hd' v 0 - 1) l) (sym gone)
        (subst (λ (j : ℕ). Chain front us nx n v j m) (sym to) node.chain)) in
        let other : (w : ℕ) → w ≢ v → Chain front us nx n w (get_or hd' w 0 - 1) (at front w rest')
        = λ w d. subst (λ (l : List ℕ). Chain front us nx n w (get_or hd' w 0 - 1) l) (sym (at_other front v w k rest (λ g. d (sym g))))
        (subst (λ (j : ℕ). Chain front us nx n w (j - 1) (at front w rest)) (sym (get_or-set_other hd v w x 0 d)) (L.chains w)) in
        record {
          long_heads = length-set hd v x ∙ L.long_heads;
          long_nexts = L.long_nexts;
          tables = record { heads = set_all (λ (y : ℕ). y ≤ n + 1) hd v x L.tables.heads (entry_small (get_or nx p 0) n (L.tables.nexts p)); nexts = L.tables.nexts };
          chains = λ w. ⊎_elim (same w) (other w) (cases_eq w v);
          dropped = set_all (λ (y : ℕ). y ≢ 1) hd v x L.dropped (entry_not_empty (get_or nx p 0));
        }

    -- the first of two
    module _ (a : ℕ) (ha : get_or nx p 0 ≡ a + 1) (hb : get_or nx a 0 ≡ 0) where
      node2 : Node front us nx n v a node.before
      node2 = chain_some front us nx n v (get_or nx p 0) a node.before ha node.chain

      pub two : at front v rest ≡ get_or us a 0 ∷ get_or us p 0 ∷ []
      two =
          let z : node2.before ≡ [] = chain_none front us nx n v (get_or nx a 0) node2.before hb node2.chain in
          node.is ∙ ap (λ (l : List ℕ). l ++ (get_or us p 0 ∷ [])) (node2.is ∙ ap (λ (l : List ℕ). l ++ (get_or us a 0 ∷ [])) z)

      pub lists_first : n ≤ 1024 → Lists front us n hd (set nx p 0) (del (sits front v) 0 rest)
      lists_first few =
          let hn : p < length nx = omega (arith, L.long_nexts, node.below) in
          let nx' = set nx p 0 in
          let rest' = del (sits front v) 0 rest in
          let left : at front v rest' ≡ get_or us p 0 ∷ [] = at_same front v 0 rest ∙ ap (λ (l : List ℕ). without l 0) two in
          let same : (w : ℕ) → w ≡ v → Chain front us nx' n w (get_or hd w 0 - 1) (at front w rest')
          = λ w e. subst (λ (j : ℕ). Chain front us nx' n j (get_or hd j 0 - 1) (at front j rest')) (sym e)
          (some p [] leads node.below node.sits_at (none (get_or-set_same nx p 0 0 hn) refl) left) in
          let other : (w : ℕ) → w ≢ v → Chain front us nx' n w (get_or hd w 0 - 1) (at front w rest')
          = λ w d. subst (λ (l : List ℕ). Chain front us nx' n w (get_or hd w 0 - 1) l) (sym (at_other front v w 0 rest (λ g. d (sym g))))
          (chain_set front us nx n w p 0 (get_or hd w 0 - 1) (at front w rest) (λ g. d (sym g ∙ node.sits_at)) (L.chains w)) in
          record {
            long_heads = L.long_heads;
            long_nexts = length-set nx p 0 ∙ L.long_nexts;
            tables = record { heads = L.tables.heads; nexts = set_all (λ (y : ℕ). y ≤ n) nx p 0 L.tables.nexts (omega arith) };
            chains = λ w. ⊎_elim (same w) (other w) (cases_eq w v);
            dropped = L.dropped;
          }

    pub one_only : get_or nx p 0 ≡ 0 → at front v rest ≡ get_or us p 0 ∷ []
    one_only z = node.is ∙ ap (λ (l : List ℕ). l ++ (get_or us p 0 ∷ [])) (chain_none front us nx n v (get_or nx p 0) node.before z node.chain)

    pub three : (a b : ℕ) → get_or nx p 0 ≡ a + 1 → get_or nx a 0 ≡ b + 1 → 3 ≤ length (at front v rest)
    three a b ha hb =
        let s = chain_some front us nx n v (get_or nx p 0) a node.before ha node.chain in
        let t = chain_some front us nx n v (get_or nx a 0) b s.before hb s.chain in
        omega (arith, ap length node.is, ap length s.is, ap length t.is, length-append node.before (get_or us p 0 ∷ []), length-append s.before (get_or us a 0 ∷ []), length-append t.before (get_or us b 0 ∷ []))
