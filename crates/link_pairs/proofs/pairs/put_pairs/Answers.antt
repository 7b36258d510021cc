use mathlib.Core.Path.{◌≡◌, sym, ap, ◌∙◌, subst}
use mathlib.Core.List.{List}
use Prim.Native.Nat.{ℕ, ◌+◌, ◌≤◌, ◌<◌}
use borrow.Author.Rules.{rules}
use native.Mathlib.Omega.{arith}
use lib.ListN.{length, get_or, take}
use lib.Seq.{take-length}
use Rattle.std.specs.Prelude.{Option, Some, None}
use Rattle.sorted_keys.specs.Sorted.{FirstAtLeast}
use Rattle.product.specs.Keys.{link_key, key_label}
use Rattle.link_pairs.specs.Found.{found, pairs_of, Put}
use Rattle.link_pairs.proofs.Placing.{put-more, put-early, found-next, found_none}
use Rattle.link_pairs.proofs.pairs.put_pairs.Goals as goal

-- labels never fall along keys in order
labels-rise : (x y : ℕ) → x ≤ y → link_key (key_label x) 0 0 ≤ link_key (key_label y) 0 0
labels-rise x y h = omega (arith, h)

-- the pairs of one link more
more : (n : ℕ) (seconds firsts before middle after : List ℕ) (l next : ℕ) (r : Option ℕ) → l < length firsts → Put 0 (found n seconds (take l firsts)) before middle (Some next) → Put next (pairs_of n seconds (get_or firsts l 0)) middle after r → Put 0 (found n seconds (take (l + 1) firsts)) before after r
more n seconds firsts before middle after l next r h p q =
    subst (λ (k : List ℕ). Put 0 k before after r) (found-next n seconds firsts l h) (put-more 0 (found n seconds (take l firsts)) (pairs_of n seconds (get_or firsts l 0)) before middle after next r p q)

pub loop-key-init : goal.loop-key-init
loop-key-init c = let a = c.args in (found_none a.nodes a.seconds.now.keys.now a.firsts.now.keys.now a.pairs.now, omega arith, λ i j h o b. absurd (omega (arith, h)))

pub first_from-low-requires : goal.first_from-low-requires
first_from-low-requires c =
    let turn = c.loop-key in record {
      within = turn.invariant.1;
      below = λ i h. omega (arith, turn.invariant.2 i turn.key-index h (omega arith) c.loop-key-test.true, c.least_alike.ensures);
    }

pub put_partners-requires : goal.put_partners-requires
put_partners-requires c =
    let seconds = c.args.seconds.now.keys.now in record {
      begins = subst (λ (k : ℕ). FirstAtLeast (length seconds) seconds k c.first_from-low.result) c.least_alike.ensures c.first_from-low.ensures;
      nodes_le_node_limit = c.requires.nodes_le_node_limit.0;
      link_limit_in_bounds = (omega (arith, c.requires.nodes_le_node_limit.1, c.loop-key.auto.pairs), c.loop-key.invariant.0.placed.0);
    }

pub returns-in_err-next : goal.returns-in_err-next
returns-in_err-next c =
    let a = c.args in
    let turn = c.loop-key in
    let none : c.from_residual.result ≡ None = search rules in
    let short = more a.nodes a.seconds.now.keys.now a.firsts.now.keys.now a.pairs.now turn.pairs c.put_partners.new.pairs turn.key-index turn.next None c.loop-key-test.true turn.invariant.0 c.in_err-next.ensures in
    subst (Put 0 (found a.nodes a.seconds.now.keys.now a.firsts.now.keys.now) a.pairs.now c.put_partners.new.pairs) (sym none) (put-early a.nodes a.seconds.now.keys.now a.firsts.now.keys.now a.pairs.now c.put_partners.new.pairs (turn.key-index + 1) (omega arith) short)

pub loop-key-preserved : goal.loop-key-preserved
loop-key-preserved c =
    let a = c.args in
    let turn = c.loop-key in
    let low = c.first_from-low.ensures in (
      more a.nodes a.seconds.now.keys.now a.firsts.now.keys.now a.pairs.now turn.pairs c.put_partners.new.pairs turn.key-index turn.next (Some c.in_ok-next.next) c.loop-key-test.true turn.invariant.0 c.in_ok-next.ensures,
      low.within,
      λ i j h o b.
          let up = labels-rise _ _ (a.firsts.now.rising turn.key-index j (omega (arith, o)) b) in
          omega (arith, low.below i h, c.least_alike.ensures, up),
    )

pub returns : goal.returns
returns c =
    let a = c.args in
    let turn = c.loop-key in
    let all : turn.key-index ≡ length a.firsts.now.keys.now = omega arith in
    subst (λ (l : List ℕ). Put 0 (found a.nodes a.seconds.now.keys.now l) a.pairs.now turn.pairs (Some turn.next)) (ap (λ (k : ℕ). take k a.firsts.now.keys.now) all ∙ take-length a.firsts.now.keys.now) turn.invariant.0
