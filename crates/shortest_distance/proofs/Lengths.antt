-- How many distances are written: what the scan and the pass over the links find is one more than the highest node reached, or led to from a reached one. Assumes nothing.
use mathlib.Core.Path.{◌≡◌, refl, sym, ap, ◌∙◌, subst}
use mathlib.Core.Logic.{◌⊎◌, inl, inr}
use mathlib.Core.Bool.{Bool, true, false, cond}
use mathlib.Core.List.{List}
use Prim.Native.Nat.{ℕ, zero, suc, ◌+◌, ◌*◌, ◌≤◌, ◌<◌}
use native.Mathlib.Decide.{ℕ_discrete}
use native.Mathlib.Nat.{le_refl, le_trans, lt_of_lt_of_le, le_antisymm}
use native.Mathlib.Numerals.{add-one}
use native.Mathlib.Omega.{arith}
use lib.Dec.{leb, eqb}
use lib.ListN.{length}
use borrow.Author.Tests.{leb-true, leb-false, eqb-true}
use Rattle.tropical_weight.proofs.Semiring.{is_finite}
use Rattle.sheet.specs.Below.{sum_below}
use Rattle.sheet.specs.Words.{word}
use Rattle.sheet.specs.Records.{count_at, first_link}
use Rattle.sheet.specs.Machine.{Machine, unit_in}
use Rattle.sheet.proofs.Apart.{not-both, or-either, or_left, or_right}
use Rattle.sheet.proofs.Below.{split_at}
use Rattle.machine.specs.Readings.{link}
use Rattle.machine.specs.Distance.{dist, distance, is_reached, is_led_to, is_counted, height}
use Rattle.machine.proofs.Named.{weight-of}
use Rattle.machine.proofs.Reached.{led-by, leads, height-above, height-attained}
use Rattle.sheet.proofs.NodeSources.{next-first}
use Rattle.machine.proofs.SheetFields.{SheetFields, first-in}
use Rattle.distance.specs.Held.{held, reached_in}
use Rattle.distance.proofs.Offers.{reached-held}
use Rattle.shortest_distance.specs.NodeSlots.{distance_at, height_in, led_from, led_height, length_in}
use Rattle.sheet.specs.Sheet.{link_length}

-- ---- a loop's turn more
pub led-from-next : (bytes : List ℕ) (first n height : ℕ)
    → led_from bytes first (n + 1) height ≡ cond (leb (led_from bytes first n height) (word bytes (link_length * (first + n) + 12))) (word bytes (link_length * (first + n) + 12) + 1) (led_from bytes first n height)
unfolding led_from
led-from-next bytes first n height = ap (λ (k : ℕ). led_from bytes first k height) (add-one n)

pub led-height-next : (bytes : List ℕ) (links : ℕ) (work : List ℕ) (v next height : ℕ) (reached : Bool) → next ≡ v + 1 → reached_in (distance_at work v) ≡ reached
    → led_height bytes links work next height ≡ cond reached (led_from bytes (first_link bytes links v) (count_at bytes links v) (led_height bytes links work v height)) (led_height bytes links work v height)
unfolding led_height
led-height-next bytes links work v next height reached e q =
    ap (λ (k : ℕ). led_height bytes links work k height) (e ∙ add-one v)
    ∙ λ i. cond (q i) (led_from bytes (first_link bytes links v) (count_at bytes links v) (led_height bytes links work v height)) (led_height bytes links work v height)

-- ---- what is found is above the nodes that the links lead to, and is the height there was, or one more than such a node
-- a node more
raised : (top next : ℕ) → (top ≤ cond (leb top next) (next + 1) top) × (next < cond (leb top next) (next + 1) top)
raised top next = go (leb top next) refl
  where
    go : (t : Bool) → leb top next ≡ t → (top ≤ cond t (next + 1) top) × (next < cond t (next + 1) top)
    go true e = (omega (arith, leb-true top next e), omega arith)
    go false e = (omega arith, omega (arith, leb-false top next e))

module _ (bytes : List ℕ) where
  -- where link l leads
  abbrev to : ℕ → ℕ
  to l = word bytes (link_length * l + 12)

  -- ---- of the links from a number on
  module _ (first height : ℕ) where
    from_le : (n : ℕ) → height ≤ led_from bytes first n height
    unfolding led_from
    from_le zero = omega arith
    from_le (suc n) = le_trans (from_le n) (raised (led_from bytes first n height) (to (first + n))).0

    from-above : (n l : ℕ) → first ≤ l → l < first + n → to l < led_from bytes first n height
    unfolding led_from
    from-above zero l a b = absurd (omega arith)
    from-above (suc n) l a b =
        let more = raised (led_from bytes first n height) (to (first + n)) in
        elim (ℕ_discrete l (first + n)) [
          | yes e ↦ subst (λ (x : ℕ). to x < cond (leb (led_from bytes first n height) (to (first + n))) (to (first + n) + 1) (led_from bytes first n height)) (sym e) more.1
          | no q ↦ lt_of_lt_of_le (from-above n l a (omega (arith, q))) more.0
        ]

    from-attained : (n : ℕ) → (led_from bytes first n height ≡ height) ⊎ ((l : ℕ) × (first ≤ l) × (l < first + n) × (led_from bytes first n height ≡ to l + 1))
    unfolding led_from
    from-attained zero = inl refl
    from-attained (suc n) = go (leb (led_from bytes first n height) (to (first + n))) (from-attained n)
      where
        go : (t : Bool) → (led_from bytes first n height ≡ height) ⊎ ((l : ℕ) × (first ≤ l) × (l < first + n) × (led_from bytes first n height ≡ to l + 1))
            → (cond t (to (first + n) + 1) (led_from bytes first n height) ≡ height) ⊎ ((l : ℕ) × (first ≤ l) × (l < first + suc n) × (cond t (to (first + n) + 1) (led_from bytes first n height) ≡ to l + 1))
        go true ih = inr (first + n, omega arith, omega arith, refl)
        go false (inl e) = inl e
        go false (inr x) = inr (x.0, x.1, omega (arith, x.2), x.3)

  -- ---- of the reached ones of n nodes
  module _ (links : ℕ) (work : List ℕ) where
    -- link l is one of a reached node below n
    abbrev Led : ℕ → ℕ → Type 0
    Led n l = (u : ℕ) × (u < n) × (reached_in (distance_at work u) ≡ true) × (first_link bytes links u ≤ l) × (l < first_link bytes links u + count_at bytes links u)

    module _ (height : ℕ) where
      abbrev top : ℕ → ℕ
      top n = led_height bytes links work n height

      abbrev on : ℕ → ℕ
      on n = led_from bytes (first_link bytes links n) (count_at bytes links n) (led_height bytes links work n height)

      step-le : (n : ℕ) → top n ≤ top (suc n)
      unfolding led_height
      step-le n = go (reached_in (distance_at work n))
        where
          go : (t : Bool) → top n ≤ cond t (on n) (top n)
          go true = from_le (first_link bytes links n) (top n) (count_at bytes links n)
          go false = omega arith

      pass_le : (n : ℕ) → height ≤ led_height bytes links work n height
      pass_le zero = unfold led_height in le_refl height
      pass_le (suc n) = le_trans (pass_le n) (step-le n)

      pass-above : (n l : ℕ) → Led n l → to l < led_height bytes links work n height
      unfolding led_height
      pass-above zero l x = absurd (omega (arith, x.1))
      pass-above (suc n) l x = elim (ℕ_discrete x.0 n) [ yes e ↦ here e | no q ↦ lt_of_lt_of_le (pass-above n l (x.0, omega (arith, x.1, q), x.2, x.3, x.4)) (step-le n) ]
        where
          here : x.0 ≡ n → to l < cond (reached_in (distance_at work n)) (on n) (top n)
          here e =
              subst (λ (t : Bool). to l < cond t (on n) (top n)) (sym (ap (λ (u : ℕ). reached_in (distance_at work u)) (sym e) ∙ x.2))
              (from-above (first_link bytes links n) (top n) (count_at bytes links n) l (subst (λ (u : ℕ). first_link bytes links u ≤ l) e x.3) (subst (λ (u : ℕ). l < first_link bytes links u + count_at bytes links u) e x.4))

      pass-attained : (n : ℕ) → (led_height bytes links work n height ≡ height) ⊎ ((l : ℕ) × Led n l × (led_height bytes links work n height ≡ to l + 1))
      unfolding led_height
      pass-attained zero = inl refl
      pass-attained (suc n) = go (reached_in (distance_at work n)) refl (pass-attained n)
        where
          before : (top n ≡ height) ⊎ ((l : ℕ) × Led n l × (top n ≡ to l + 1)) → (top n ≡ height) ⊎ ((l : ℕ) × Led (suc n) l × (top n ≡ to l + 1))
          before (inl e) = inl e
          before (inr x) = inr (x.0, (x.1.0, omega (arith, x.1.1), x.1.2, x.1.3, x.1.4), x.2)

          go : (t : Bool) → reached_in (distance_at work n) ≡ t → (top n ≡ height) ⊎ ((l : ℕ) × Led n l × (top n ≡ to l + 1)) → (cond t (on n) (top n) ≡ height) ⊎ ((l : ℕ) × Led (suc n) l × (cond t (on n) (top n) ≡ to l + 1))
          go true e ih = elim (from-attained (first_link bytes links n) (top n) (count_at bytes links n)) [
            | inl q ↦ subst (λ (k : ℕ). (k ≡ height) ⊎ ((l : ℕ) × Led (suc n) l × (k ≡ to l + 1))) (sym q) (before ih)
            | inr x ↦ inr (x.0, (n, omega arith, e, x.1, x.2), x.3)
          ]
          go false e ih = before ih

-- ---- the scan: it is above the reached nodes, and is 0 or one more than such a node
module _ (work : List ℕ) where
  scan-above : (n v : ℕ) → v < n → reached_in (distance_at work v) ≡ true → v < height_in work n
  unfolding height_in
  scan-above zero v h e = absurd (omega arith)
  scan-above (suc n) v h e = go (reached_in (distance_at work n)) refl (ℕ_discrete v n) (λ b. scan-above n v b e)
    where
      go : (t : Bool) → reached_in (distance_at work n) ≡ t → Dec (v ≡ n) → (v < n → v < height_in work n) → v < cond t (suc n) (height_in work n)
      go true p d ih = omega arith
      go false p (yes q) ih = absurd (not-both (ap (λ (u : ℕ). reached_in (distance_at work u)) (sym q) ∙ e) p)
      go false p (no q) ih = ih (omega (arith, q))

  scan-attained : (n : ℕ) → (height_in work n ≡ 0) ⊎ ((v : ℕ) × (v < n) × (reached_in (distance_at work v) ≡ true) × (height_in work n ≡ suc v))
  unfolding height_in
  scan-attained zero = inl refl
  scan-attained (suc n) = go (reached_in (distance_at work n)) refl (scan-attained n)
    where
      go : (t : Bool) → reached_in (distance_at work n) ≡ t → (height_in work n ≡ 0) ⊎ ((v : ℕ) × (v < n) × (reached_in (distance_at work v) ≡ true) × (height_in work n ≡ suc v))
          → (cond t (suc n) (height_in work n) ≡ 0) ⊎ ((v : ℕ) × (v < suc n) × (reached_in (distance_at work v) ≡ true) × (cond t (suc n) (height_in work n) ≡ suc v))
      go true e ih = inr (n, omega arith, e, refl)
      go false e (inl q) = inl q
      go false e (inr x) = inr (x.0, omega (arith, x.1), x.2, x.3)

  pub scan-low : (n : ℕ) → height_in work n ≤ n
  scan-low n = elim (scan-attained n) [ inl e ↦ omega (arith, e) | inr x ↦ omega (arith, x.1, x.3) ]

-- ---- of a sheet whose distances are made
module _ (bytes : List ℕ) (links nodes : ℕ) (m : Machine) (f : SheetFields bytes links nodes m) (work : List ℕ) (made : (v : ℕ) → v < nodes → distance_at work v ≡ held (unit_in m) (distance m v)) where
  found : (v : ℕ) → v < nodes → reached_in (distance_at work v) ≡ is_reached m v
  found v b = ap reached_in (made v b) ∙ reached-held (unit_in m) (distance m v) ∙ ap is_finite (weight-of (dist m v))

  abbrev highest : ℕ
  highest = height_in work nodes

  -- a link from a reached node is one of a node below the height of these; the links of a node follow those of the node before
  link-led : (k l : ℕ) → k ≤ nodes → l < first_link bytes links k → is_reached m (link m l).source ≡ true → Led bytes links work (height_in work nodes) l
  unfolding sum_below
  link-led zero l h b e = absurd (omega arith)
  link-led (suc k) l h b e = elim (split_at l (first_link bytes links k)) [
    | inl c ↦ link-led k l (omega arith) c e
    | inr c ↦
        let reached = found k h ∙ ap (is_reached m) (sym (f.source-at k l h c b)) ∙ e in
        (k, scan-above work nodes k h reached, reached, c, b)
  ]

  -- and leads to a counted one
  led-counted : (n l : ℕ) → n ≤ nodes → Led bytes links work n l → (word bytes (link_length * l + 12) < nodes) × (is_counted m (word bytes (link_length * l + 12)) ≡ true)
  led-counted n l h x =
      let u = x.0 in
      let b : u < nodes = omega (arith, x.1) in
      let in-links : l < links = omega (arith, x.4, next-first bytes links u, first-in f (suc u) b) in
      let same = f.next-at l in-links in
      let reached : is_reached m (link m l).source ≡ true = ap (is_reached m) (f.source-at u l b x.3 x.4) ∙ sym (found u b) ∙ x.2 in
      let led = leads m (length m.links) l (subst (λ (k : ℕ). l < k) (sym f.links-are) in-links) reached in
      (subst (λ (v : ℕ). v < nodes) (sym same) (f.next-in l in-links), ap (is_counted m) same ∙ or_right (is_reached m (link m l).next) (is_led_to m (length m.links) (link m l).next) led)

  counted-above : (v : ℕ) → v < nodes → is_counted m v ≡ true → v < length_in bytes links nodes work
  counted-above v b e = go (eqb highest nodes) refl (or-either (is_reached m v) (is_led_to m (length m.links) v) e)
    where
      go : (t : Bool) → eqb highest nodes ≡ t → (is_reached m v ≡ true) ⊎ (is_led_to m (length m.links) v ≡ true) → v < cond t highest (led_height bytes links work highest highest)
      go true p x = omega (arith, b, eqb-true highest nodes p)
      go false p (inl x) = lt_of_lt_of_le (scan-above work nodes v b (found v b ∙ x)) (pass_le bytes links work highest highest)
      go false p (inr x) =
          let y = led-by m (length m.links) v x in
          let in-links : y.0 < links = omega (arith, y.1, f.links-are) in
          let led = link-led nodes y.0 (le_refl nodes) (omega (arith, in-links, f.counted)) y.3 in
          subst (λ (u : ℕ). u < led_height bytes links work highest highest) (f.next-at y.0 in-links ∙ y.2) (pass-above bytes links work highest highest y.0 led)

  abbrev Attained : ℕ → Type 0
  Attained k = (k ≡ 0) ⊎ ((v : ℕ) × (v < nodes) × (is_counted m v ≡ true) × (k ≡ suc v))

  length-attained : Attained (length_in bytes links nodes work)
  length-attained = go (eqb highest nodes)
    where
      scanned : Attained highest
      scanned = elim (scan-attained work nodes) [
        | inl e ↦ inl e
        | inr x ↦ inr (x.0, x.1, or_left (is_reached m x.0) (is_led_to m (length m.links) x.0) (sym (found x.0 x.1) ∙ x.2), x.3)
      ]

      go : (t : Bool) → Attained (cond t highest (led_height bytes links work highest highest))
      go true = scanned
      go false = elim (pass-attained bytes links work highest highest) [
        | inl e ↦ subst Attained (sym e) scanned
        | inr x ↦ let y = led-counted highest x.0 (scan-low work nodes) x.1 in inr (word bytes (link_length * x.0 + 12), y.0, y.1, x.2 ∙ add-one (word bytes (link_length * x.0 + 12)))
      ]

  pub length-is : length_in bytes links nodes work ≡ height m
  length-is =
      le_antisymm
      (elim length-attained [
        | inl e ↦ omega (arith, e)
        | inr x ↦ subst (λ (k : ℕ). k ≤ height m) (sym x.3) (height-above m (length m.finals) x.0 (subst (λ (k : ℕ). x.0 < k) (sym f.nodes-are) x.1) x.2)
      ])
      (elim (height-attained m (length m.finals)) [
        | inl e ↦ omega (arith, e)
        | inr x ↦ subst (λ (k : ℕ). k ≤ length_in bytes links nodes work) (sym x.3) (counted-above x.0 (subst (λ (k : ℕ). x.0 < k) f.nodes-are x.1) x.2)
      ])
