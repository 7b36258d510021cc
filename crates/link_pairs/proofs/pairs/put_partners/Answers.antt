use mathlib.Core.Path.{◌≡◌, refl, sym, ap, ◌∙◌}
use mathlib.Core.List.{List, [], ◌∷◌, ◌++◌, map, append_assoc, append-nil}
use Prim.Native.Nat.{ℕ, ◌+◌, ◌*◌, ◌≤◌}
use native.Mathlib.Omega.{arith}
use lib.ListN.{get_or, set, drop, length-append}
use Rattle.product.specs.Keys.{link_key, key_label, pair_key}
use Rattle.link_pairs.specs.Found.{partners, pair_of}
use Rattle.link_pairs.proofs.Storing.{sets_more}
use Rattle.link_pairs.proofs.Partners.{key-behind, partners-from, partners-here, partners-over, partners-end}
use Rattle.link_pairs.proofs.Placing.{put_all, put-past}
use Rattle.link_pairs.proofs.pairs.put_partners.Goals as goal

pub loop-second-init : goal.loop-second-init
loop-second-init c =
    let a = c.args in
    let at_first : a.low + 0 ≡ a.low = omega arith in
    (c.requires.link_limit_in_bounds.1, ([], omega arith, refl, ap (λ (k : ℕ). map (pair_of a.nodes a.key) (partners a.key (drop k a.seconds.now.keys.now))) at_first ∙ ap (map (pair_of a.nodes a.key)) (partners-from a.key a.seconds.now.keys.now a.low c.requires.begins)))

pub returns-then-key_label-label : goal.returns-then-key_label-label
returns-then-key_label-label c =
    let a = c.args in
    let turn = c.loop-second in
    let seconds = a.seconds.now.keys.now in
    let done = turn.invariant.1.0 in
    let place = a.low + turn.second-index in
    let above : link_key (key_label a.key) 0 0 ≤ get_or seconds place 0 = c.requires.begins.above place (omega arith) (omega arith) in
    let none = partners-over a.key seconds a.seconds.now.rising place (omega arith) above (λ e. c.if-key_label-label.true (c.key_label.ensures ∙ ap key_label (key-behind a.seconds.now.keys.now a.low turn.second-index (omega arith)) ∙ e ∙ sym c.key_label-label.ensures)) in
    put_all a.at done _ a.pairs.now turn.pairs turn.next turn.auto.pairs turn.invariant.0 turn.invariant.1.1 turn.invariant.1.2
    (sym (append-nil done) ∙ ap (λ (l : List ℕ). done ++ map (pair_of a.nodes a.key) l) (sym none) ∙ turn.invariant.1.3)

pub returns-then-next-eq-LINK_LIMIT : goal.returns-then-next-eq-LINK_LIMIT
returns-then-next-eq-LINK_LIMIT c =
    let a = c.args in
    let turn = c.loop-second in
    let done = turn.invariant.1.0 in
    let place = a.low + turn.second-index in
    let same : key_label (get_or a.seconds.now.keys.now place 0) ≡ key_label a.key = sym (c.key_label.ensures ∙ ap key_label (key-behind a.seconds.now.keys.now a.low turn.second-index (omega arith))) ∙ c.if-key_label-label.false ∙ c.key_label-label.ensures in
    put-past a.at done _ _ a.pairs.now turn.pairs _ turn.auto.pairs (omega (arith, c.if-next-eq-LINK_LIMIT.true, turn.invariant.1.1))
    (ap (λ (l : List ℕ). done ++ map (pair_of a.nodes a.key) l) (sym (partners-here a.key a.seconds.now.keys.now place (omega arith) same)) ∙ turn.invariant.1.3)

pub loop-second-preserved : goal.loop-second-preserved
loop-second-preserved c =
    let a = c.args in
    let turn = c.loop-second in
    let seconds = a.seconds.now.keys.now in
    let done = turn.invariant.1.0 in
    let place = a.low + turn.second-index in
    let same : key_label (get_or seconds place 0) ≡ key_label a.key = sym (c.key_label.ensures ∙ ap key_label (key-behind a.seconds.now.keys.now a.low turn.second-index (omega arith))) ∙ c.if-key_label-label.false ∙ c.key_label-label.ensures in
    let made : c.pair_key.result ≡ pair_of a.nodes a.key (get_or seconds place 0) =
    c.pair_key.ensures ∙ (λ i. pair_key (c.key_node.ensures.0 i * a.nodes + c.key_node-in-loop-second.ensures.0 i) (c.key_link.ensures.0 i) (c.key_link-in-loop-second.ensures.0 i)) ∙ ap (pair_of a.nodes a.key) (key-behind a.seconds.now.keys.now a.low turn.second-index (omega arith)) in
    let one_on : place + 1 ≡ a.low + (turn.second-index + 1) = omega arith in
    let rest = map (pair_of a.nodes a.key) (partners a.key (drop (a.low + (turn.second-index + 1)) seconds)) in (
      omega (arith, c.if-next-eq-LINK_LIMIT.false, turn.invariant.0),
      (
        done ++ (c.pair_key.result ∷ []),
        omega (arith, turn.invariant.1.1, length-append done (c.pair_key.result ∷ [])),
        ap (λ (l : List ℕ). set l turn.next c.pair_key.result) turn.invariant.1.2 ∙ sets_more a.pairs.now a.at done c.pair_key.result turn.next turn.invariant.1.1,
        append_assoc done (c.pair_key.result ∷ []) rest
            ∙ ap (λ (x : ℕ). done ++ (x ∷ rest)) made
            ∙ ap (λ (l : List ℕ). done ++ map (pair_of a.nodes a.key) l) (sym (partners-here a.key seconds place (omega arith) same ∙ ap (λ (k : ℕ). get_or seconds place 0 ∷ partners a.key (drop k seconds)) one_on))
            ∙ turn.invariant.1.3,
      ),
    )

pub returns : goal.returns
returns c =
    let a = c.args in
    let turn = c.loop-second in
    let done = turn.invariant.1.0 in
    let place = a.low + turn.second-index in
    let none = partners-end a.key a.seconds.now.keys.now place (omega arith) in
    put_all a.at done _ a.pairs.now turn.pairs turn.next turn.auto.pairs turn.invariant.0 turn.invariant.1.1 turn.invariant.1.2
    (sym (append-nil done) ∙ ap (λ (l : List ℕ). done ++ map (pair_of a.nodes a.key) l) (sym none) ∙ turn.invariant.1.3)
