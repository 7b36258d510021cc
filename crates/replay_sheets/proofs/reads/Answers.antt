use Rattle.std.proofs.Common.{◌≡◌, ℕ, ◌*◌, List, ap, ◌∙◌, subst, below_more, arith, Bor}
use Rattle.std.specs.Prelude.{Option}
use Rattle.sheet.specs.declared.reader.Reader.{Reader}
use Rattle.sheet.specs.declared.tr.Link.{Link}
use Rattle.sheet.specs.Sheet.{link_length}
use Rattle.sheet.specs.Reading.{next_link, place_after, place_at}
use Rattle.replay_sheets.specs.Given.{Given}
use Rattle.replay_sheets.proofs.Turns.{place-more}
use Rattle.replay_sheets.proofs.reads.Goals as goal

pub loop-k-init : goal.loop-k-init
unfolding place_at
loop-k-init c = (ap (λ (b : Bor (List ℕ)). b.now) c.new-reader.ensures.0, c.new-reader.ensures.1, λ j h. absurd (omega arith))

pub loop-k-preserved : goal.loop-k-preserved
loop-k-preserved c =
    let s = c.args.sheet.now in
    let links = c.args.links.now in
    let k = c.loop-k.k in
    let r = c.loop-k.reader in
    let inv = c.loop-k.invariant in
    let gives = c.next-link.ensures.steps in
    let link_is : c.next-link.result ≡ next_link s (place_at s k) = gives.0 ∙ ap (λ (b : List ℕ). next_link b r.next) inv.0 ∙ ap (next_link s) inv.1 in (
      ap (λ (q : Reader). q.sheet.now) gives.1 ∙ inv.0,
      ap (λ (q : Reader). q.next) gives.1 ∙ ap (λ (b : List ℕ). place_after b r.next) inv.0 ∙ place-more s r.next k inv.1,
      below_more (λ j. Given (next_link s (place_at s j)) links (link_length * j)) k inv.2 (subst (λ (l : Option Link). Given l links (link_length * k)) link_is (c.given.ensures c.if-not-given.false)),
    )
