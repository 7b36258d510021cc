use mathlib.Core.Path.{◌≡◌, refl, sym, ap, ◌∙◌, subst}
use mathlib.Core.Bool.{Bool, true, false, cond}
use mathlib.Core.List.{List}
use Prim.Native.Nat.{ℕ, ◌+◌, ◌-◌, ◌≤◌, ◌<◌}
use native.Mathlib.Omega.{arith}
use lib.ListN.{set}
use lib.Seq.{get_or-set_same}
use borrow.Author.Tests.{lt-ltb, le-ltb}
use Rattle.std.specs.Prelude.{Option, Some}
use Rattle.sheet.specs.declared.tr.Link.{Link}
use Rattle.sheet.specs.Records.{link_at, count_at}
use Rattle.state_order_queue.specs.declared.Queue.{Queue}
use Rattle.state_order_queue.specs.Queues.{empty_from, is_empty, next_front, enqueued, dequeued}
use Rattle.state_order_queue.proofs.Records.{filled-bound, valid-ends, flagged-enqueued, cleared-dequeued}
use Rattle.distance.specs.Held.{weight_in}
use Rattle.distance.specs.Offer.{reaches}
use Rattle.shortest_distance.specs.NodeSlots.{distance_at, first_word}
use Rattle.shortest_distance.specs.Relaxation.{State, relax_links, relax_heads}
use Rattle.shortest_distance.specs.Sound.{Sound}
use Rattle.shortest_distance.proofs.Kept.{link-again, front_below, head-taken, head-links, head-made, heads-none, heads-end, heads-again}
use Rattle.shortest_distance.proofs.relax.relax_heads.Goals as goal
use Rattle.shortest_distance.proofs.relax.relax_heads.Goals.{then-relax_link, else-relax_link}

-- where the loop goes on the queue is not empty: its front is a node, whose links are among those of the sheet
module _ {bytes : List ℕ} {links nodes : ℕ} {work : List ℕ} {q : Queue} (sound : Sound bytes links nodes work q) {b : ℕ} (e : q.back ≡ Some b) (l : q.front ≤ b) where
  filled : is_empty q ≡ false
  filled = ap (empty_from q.front) e ∙ le-ltb _ _ l

  node : q.front < nodes
  node = front_below bytes links nodes (record { work = work; queue = q }) sound filled

  among : first_word work q.front + count_at bytes links q.front ≤ links
  among = head-links bytes links nodes (record { work = work; queue = q }) sound filled

  taken : Sound bytes links nodes work (dequeued q)
  taken = head-taken bytes links nodes (record { work = work; queue = q }) sound filled

-- a link of the sheet leads to a node
next-in : {bytes : List ℕ} {links nodes : ℕ} {work : List ℕ} {q : Queue} (sound : Sound bytes links nodes work q) (l : ℕ) → l < links → (k : Link) → k ≡ link_at bytes l → k.nextstate < nodes
next-in {nodes = nodes} sound l h k e = subst (λ (k : Link). k.nextstate < nodes) (sym e) (sound.inside l h)

pub loop-turn-init : goal.loop-turn-init
loop-turn-init c =
    let args = c.args in
    let s = args.sheet.now in
    let whole : s.nodes - 0 ≡ s.nodes = omega arith in
    record { sound = c.requires; left = ap (λ (n : ℕ). relax_heads s.bytes.now s.links n (record { work = args.work.now; queue = args.q })) whole }

-- an empty queue ends the loop
module _ (bytes : List ℕ) (links n : ℕ) (work : List ℕ) (q : Queue) (whole : State) (left : relax_heads bytes links n (record { work = work; queue = q }) ≡ whole) where
  ended : is_empty q ≡ true → work ≡ whole.work
  ended e = ap (λ (s : State). s.work) (sym (heads-end bytes links (record { work = work; queue = q }) n e) ∙ left)

pub returns-in_default : goal.returns-in_default
returns-in_default c = ended _ _ _ _ _ _ c.loop-turn.invariant.left (ap (empty_from c.loop-turn.queue.front) c.in_default.is)

pub returns-then-back-front : goal.returns-then-back-front
returns-then-back-front c = ended _ _ _ _ _ _ c.loop-turn.invariant.left (ap (empty_from c.loop-turn.queue.front) c.in-Some.is ∙ lt-ltb _ _ c.if-back-front.true)

pub overflow_cast-v : goal.overflow_cast-v
overflow_cast-v c = omega (arith, node c.loop-turn.invariant.sound c.in-Some.is c.if-back-front.false)

pub overflow_mul-first : goal.overflow_mul-first
overflow_mul-first c = omega (arith, node c.loop-turn.invariant.sound c.in-Some.is c.if-back-front.false)

pub overflow_add-first : goal.overflow_add-first
overflow_add-first c = omega (arith, node c.loop-turn.invariant.sound c.in-Some.is c.if-back-front.false)

pub offset_bounds-work-v : goal.offset_bounds-work-v
offset_bounds-work-v c = omega (arith, node c.loop-turn.invariant.sound c.in-Some.is c.if-back-front.false)

pub bounds-work-v : goal.bounds-work-v
bounds-work-v c = omega (arith, node c.loop-turn.invariant.sound c.in-Some.is c.if-back-front.false, c.loop-turn.invariant.sound.slots)

pub count-count-requires : goal.count-count-requires
count-count-requires c = node c.loop-turn.invariant.sound c.in-Some.is c.if-back-front.false

pub overflow_mul-v : goal.overflow_mul-v
overflow_mul-v c = omega (arith, node c.loop-turn.invariant.sound c.in-Some.is c.if-back-front.false)

pub distance_at-requires : goal.distance_at-requires
distance_at-requires c = omega (arith, node c.loop-turn.invariant.sound c.in-Some.is c.if-back-front.false, c.loop-turn.invariant.sound.slots)

pub bounds-queue-v : goal.bounds-queue-v
bounds-queue-v c = omega (arith, node c.loop-turn.invariant.sound c.in-Some.is c.if-back-front.false, c.loop-turn.invariant.sound.few)

pub next_front-next-requires : goal.next_front-next-requires
next_front-next-requires c =
    let turn = c.loop-turn in
    let sound = turn.invariant.sound in
    filled-bound turn.queue.front _ turn.queue.back c.in-Some.is (valid-ends turn.queue sound.valid) (filled sound c.in-Some.is c.if-back-front.false)

pub dequeue_cleared-queue-requires : goal.dequeue_cleared-queue-requires
dequeue_cleared-queue-requires c =
    let q = c.loop-turn.queue in
    let sound = c.loop-turn.invariant.sound in (
      get_or-set_same q.flags q.front false false (omega (arith, node sound c.in-Some.is c.if-back-front.false, sound.few, sound.full)),
      c.next_front-next.ensures ∙ ap (λ (b : Option ℕ). next_front q.front b (set q.flags q.front false)) (sym c.in-Some.is),
    )

pub loop-i-init : goal.loop-i-init
unfolding relax_links
loop-i-init c =
    let s = c.args.sheet.now in
    let turn = c.loop-turn in
    let sound = turn.invariant.sound in
    let queue = c.dequeue_cleared-queue.ensures ∙ cleared-dequeued turn.queue (filled sound c.in-Some.is c.if-back-front.false) in
    record { sound = subst (Sound s.bytes.now s.links s.nodes turn.work) (sym queue) (taken sound c.in-Some.is c.if-back-front.false); relaxed = refl }

pub overflow_add-link : goal.overflow_add-link
overflow_add-link c = omega (arith, among c.loop-turn.invariant.sound c.in-Some.is c.if-back-front.false, c.count-count.ensures.word, c.args.sheet.now.few_links)

pub link-k-requires : goal.link-k-requires
link-k-requires c = omega (arith, among c.loop-turn.invariant.sound c.in-Some.is c.if-back-front.false, c.count-count.ensures.word)

pub relax_link-requires : goal.relax_link-requires
relax_link-requires c =
    let at : first_word c.loop-turn.work c.loop-turn.queue.front + c.loop-i.i < c.args.sheet.now.links = omega (arith, among c.loop-turn.invariant.sound c.in-Some.is c.if-back-front.false, c.count-count.ensures.word) in
    omega (arith, next-in c.loop-i.invariant.sound _ at _ c.link-k.ensures, c.loop-i.invariant.sound.slots)

pub bounds-queue-w : goal.bounds-queue-w
bounds-queue-w c =
    let at : first_word c.loop-turn.work c.loop-turn.queue.front + c.loop-i.i < c.args.sheet.now.links = omega (arith, among c.loop-turn.invariant.sound c.in-Some.is c.if-back-front.false, c.count-count.ensures.word) in
    omega (arith, next-in c.loop-i.invariant.sound _ at _ c.link-k.ensures, c.loop-i.invariant.sound.few)

pub enqueue_flagged-queue-requires : goal.enqueue_flagged-queue-requires
enqueue_flagged-queue-requires c =
    let sound = c.loop-i.invariant.sound in
    let at : first_word c.loop-turn.work c.loop-turn.queue.front + c.loop-i.i < c.args.sheet.now.links = omega (arith, among c.loop-turn.invariant.sound c.in-Some.is c.if-back-front.false, c.count-count.ensures.word) in
    get_or-set_same c.loop-i.queue.flags c.link-k.result.nextstate true false (omega (arith, next-in sound _ at _ c.link-k.ensures, sound.few, sound.full))

pub loop-i-preserved : goal.loop-i-preserved
loop-i-preserved c =
    let s = c.args.sheet.now in
    let turn = c.loop-i in
    let read = c.link-k in
    let offer = c.relax_link in
    let distance = c.as_weight-d.result in
    let old : State = record { work = turn.work; queue = turn.queue } in
    let kept : Bool → Queue = λ b. cond b (enqueued turn.queue read.result.nextstate) turn.queue in
    let queue : c.if-relax_link.queue ≡ kept (reaches (distance_at turn.work read.result.nextstate) distance read.result.weight) = elim c.if-relax_link.branch [ then-relax_link w ↦ w.queue-is ∙ w.enqueue_flagged-queue.ensures ∙ flagged-enqueued turn.queue read.result.nextstate ∙ ap kept (sym w.if-relax_link.true ∙ offer.ensures.value) | else-relax_link w ↦ w.queue-is ∙ ap kept (sym w.if-relax_link.false ∙ offer.ensures.value) ] in
    let at : first_word c.loop-turn.work c.loop-turn.queue.front + c.loop-i.i < c.args.sheet.now.links = omega (arith, among c.loop-turn.invariant.sound c.in-Some.is c.if-back-front.false, c.count-count.ensures.word) in
    let next = link-again s.bytes.now s.links s.nodes _ _ distance turn.i _ old at turn.invariant.sound turn.invariant.relaxed read.result read.ensures _ (λ j. record { work = offer.ensures.work_new j; queue = queue j }) in
    record { sound = next.0; relaxed = next.1 }

pub loop-turn-preserved : goal.loop-turn-preserved
loop-turn-preserved c =
    let s = c.args.sheet.now in
    let turn = c.loop-turn in
    let inner = c.loop-i in
    let old : State = record { work = turn.work; queue = turn.queue } in
    let last : State = record { work = inner.work; queue = inner.queue } in
    let all : inner.i ≡ c.count-count.result = omega arith in
    let some = filled turn.invariant.sound c.in-Some.is c.if-back-front.false in
    let made = head-made s.bytes.now s.links old _ _ _ (c.as_weight-d.ensures ∙ ap weight_in c.distance_at.ensures) (all ∙ c.count-count.ensures.word) (c.dequeue_cleared-queue.ensures ∙ cleared-dequeued turn.queue some) last inner.invariant.relaxed in
    let next = heads-again s.bytes.now s.links old s.nodes turn.turn _ last c.loop-turn-test.true some turn.invariant.sound made turn.invariant.left in
    record { sound = next.0; left = next.1 }

pub returns : goal.returns
returns c =
    let s = c.args.sheet.now in
    let turn = c.loop-turn in
    let none : 0 ≡ s.nodes - turn.turn = omega arith in
    let last : State = record { work = turn.work; queue = turn.queue } in
    ap (λ (s : State). s.work) (sym (heads-none s.bytes.now s.links last) ∙ ap (λ (n : ℕ). relax_heads s.bytes.now s.links n last) none ∙ turn.invariant.left)
