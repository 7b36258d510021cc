-- What the calls on a record answer, in terms of the set of its nodes, and where they refuse it. Assumes nothing.
use mathlib.Core.Path.{◌≡◌, refl, sym, ap, ◌∙◌}
use mathlib.Core.Bool.{true, false, not, ◌&&◌, ◌||◌}
use Prim.Native.Nat.{ℕ, ◌+◌, ◌≤◌, ◌<◌}
use native.Mathlib.Omega.{arith}
use lib.Dec.{eqb}
use lib.ListN.{length, set}
use borrow.Author.Tests.{lt-ltb, le-ltb}
use Rattle.tropical_weight.specs.Limits.{node_limit}
use Rattle.std.specs.Prelude.{Ok, Err, None, Some}
use Rattle.sheet.specs.declared.refusal.Refusal.TheVariants as Refusal
use Rattle.state_order_queue.specs.declared.Queue.{Queue}
use Rattle.state_order_queue.specs.Queues.{holds, is_empty, is_valid, emptied, enqueued, dequeued}
use Rattle.state_order_queue.specs.Answers.{enqueue_answer, update_answer, clear_answer, dequeue_answer, head_answer, is_empty_answer}
use Rattle.state_order_queue.proofs.Flags.{first-turn, first-end}
use Rattle.state_order_queue.proofs.Records.{dequeued-at}
use Rattle.state_order_queue.proofs.Accepts.{at_none, at_same, valid-exactly}
use Rattle.state_order_queue.proofs.Clearing.{set-clear}
use Rattle.state_order_queue.proofs.Sets.{clash, enqueued-holds, enqueued-valid, dequeued-empty, dequeued-valid, front-held, front-least, dequeued-holds}

-- ---- a record that is not valid comes back unchanged, with the refusal's number
module _ (q : Queue) (invalid : is_valid q ≡ false) where
  pub enqueue-refuses : (s : ℕ) → enqueue_answer q s ≡ record { answer = Err Refusal.Queue; queue = q }
  enqueue-refuses s = simp invalid

  pub update-refuses : (s : ℕ) → update_answer q s ≡ record { answer = Err Refusal.Queue; queue = q }
  update-refuses s = simp invalid

  pub clear-refuses : clear_answer q ≡ record { answer = Err Refusal.Queue; queue = q }
  clear-refuses = simp invalid

  pub dequeue-refuses : dequeue_answer q ≡ record { answer = Err Refusal.Queue; queue = q }
  dequeue-refuses = simp invalid

  pub head-refuses : head_answer q ≡ record { answer = Err Refusal.Queue; queue = q }
  head-refuses = simp invalid

  pub is-empty-refuses : is_empty_answer q ≡ record { answer = Err Refusal.Queue; queue = q }
  is-empty-refuses = simp invalid

-- ---- a valid record is refused only where a node too large is put in
module _ (q : Queue) (valid : is_valid q ≡ true) where
  pub enqueue-large : (s : ℕ) → node_limit ≤ s → enqueue_answer q s ≡ record { answer = Err Refusal.Queue; queue = q }
  enqueue-large s l = simp (valid, le-ltb s node_limit l)

  pub enqueue-done : (s : ℕ) → s < node_limit → enqueue_answer q s ≡ record { answer = Ok tt; queue = enqueued q s }
  enqueue-done s l = simp (valid, lt-ltb s node_limit l)

  pub update-done : (s : ℕ) → update_answer q s ≡ record { answer = Ok tt; queue = q }
  update-done s = simp valid

  pub clear-done : clear_answer q ≡ record { answer = Ok tt; queue = emptied }
  clear-done = simp valid

  pub head_done : head_answer q ≡ record { answer = Ok (Some q.front); queue = q }
  head_done = simp valid

  pub is-empty-done : is_empty_answer q ≡ record { answer = Ok (is_empty q); queue = q }
  is-empty-done = simp valid

  pub dequeue-none : is_empty q ≡ true → dequeue_answer q ≡ record { answer = Ok None; queue = q }
  dequeue-none h = simp (valid, dequeued-empty q h, h)

  pub dequeue-done : is_empty q ≡ false → dequeue_answer q ≡ record { answer = Ok (Some q.front); queue = dequeued q }
  dequeue-done h = simp (valid, h)

  -- ---- the set
  module _ (full : length q.flags ≡ node_limit) where
    -- a node put in: the record stays valid, and its set is the old one and the node
    pub enqueue-adds : (s : ℕ) → s < node_limit
        → (is_valid (enqueue_answer q s).queue ≡ true) × ((v : ℕ) → holds (enqueue_answer q s).queue v ≡ eqb v s || holds q v)
    enqueue-adds s l = rw (enqueue-done s l) (enqueued-valid q s full l valid, enqueued-holds q s full l)

    -- a node taken out is the least of the set, the record stays valid, and just that node leaves the set
    pub dequeue-takes : is_empty q ≡ false → (u : ℕ) × ((dequeue_answer q).answer ≡ Ok (Some u)) × (holds q u ≡ true) × ((v : ℕ) → holds q v ≡ true → u ≤ v)
        × (is_valid (dequeue_answer q).queue ≡ true) × ((v : ℕ) → holds (dequeue_answer q).queue v ≡ not (eqb v u) && holds q v)
    dequeue-takes h = rw (dequeue-done h) (q.front, refl, front-held q full valid h, front-least q full valid h, dequeued-valid q full valid, dequeued-holds q full valid h)

-- ---- records at the edge

-- front far above back, and no flag: accepted
pub far-valid : (q : Queue) (b : ℕ) → q.back ≡ Some b → q.front ≤ node_limit → b < q.front → ((v : ℕ) → v < node_limit → holds q v ≡ false) → is_valid q ≡ true
far-valid q b e l h clear = (valid-exactly q).1 (record {
  front_fits = l;
  back_fits = λ c d. omega (arith, at_same (sym e ∙ d));
  inside = λ c v d m k. clash (clear v m) k;
  none-set = λ v d m. clear v m;
  first-set = λ c d m. absurd (omega (arith, at_same (sym e ∙ d)));
  last_set = λ c d m. absurd (omega (arith, at_same (sym e ∙ d)));
  none-at-0 = λ d. at_none (sym e ∙ d);
})

-- the one node left is taken: front is one above back
pub last_taken : (q : Queue) → q.back ≡ Some q.front → (dequeued q).front ≡ q.front + 1
last_taken q e =
    let rest = set q.flags q.front false in
    ap (λ (r : Queue). r.front) (sym (dequeued-at q q.front e (omega arith) _ refl))
    ∙ first-turn rest q.front (q.front + 1) (omega arith) (set-clear q.flags q.front)
    ∙ first-end rest (q.front + 1) (q.front + 1) (omega arith)

-- emptied at the top, the head is the limit on nodes
pub top_head : (q : Queue) → length q.flags ≡ node_limit → is_valid q ≡ true → q.back ≡ Some q.front → q.front + 1 ≡ node_limit → (head_answer (dequeued q)).answer ≡ Ok (Some node_limit)
top_head q full valid e top = rw (head_done (dequeued q) (dequeued-valid q full valid)) (ap (λ (v : ℕ). Ok (Some v)) (last_taken q e ∙ top))
