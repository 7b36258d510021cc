-- What each call on a queue record answers: refusal 22 and the record unchanged where it is not valid. Definitions only.
use Rattle.std.specs.Prelude.{Bool, ◌&&◌, cond, ℕ, ltb, Option, None, Some, Ok, Err}
use Rattle.tropical_weight.specs.Limits.{node_limit}
use Rattle.sheet.specs.declared.refusal.Refusal.TheVariants as Refusal
use Rattle.state_order_queue.specs.declared.Queue.{Queue}
use Rattle.state_order_queue.specs.declared.Answered.{Answered}
use Rattle.state_order_queue.specs.Queues.{is_valid, is_empty, emptied, enqueued, dequeued}

-- refusal 22, and the record unchanged
abbrev pub refused : {A : Type 0} → Queue → Answered A
refused q = record { answer = Err Refusal.Queue; queue = q }

-- a value and a new record, where the call is allowed
abbrev pub answered : {A : Type 0} → Bool → Queue → A → Queue → Answered A
answered allowed q value new = cond allowed (record { answer = Ok value; queue = new }) (refused q)

abbrev pub enqueue_answer : Queue → ℕ → Answered (Unit {0})
enqueue_answer q v = answered (is_valid q && ltb v node_limit) q tt (enqueued q v)

-- nothing is put in, so no node is too large
abbrev pub update_answer : Queue → ℕ → Answered (Unit {0})
update_answer q v = answered (is_valid q) q tt q

abbrev pub clear_answer : Queue → Answered (Unit {0})
clear_answer q = answered (is_valid q) q tt emptied

abbrev pub dequeue_answer : Queue → Answered (Option ℕ)
dequeue_answer q = answered (is_valid q) q (cond (is_empty q) None (Some q.front)) (dequeued q)

-- the head is front, also of an empty queue
abbrev pub head_answer : Queue → Answered (Option ℕ)
head_answer q = answered (is_valid q) q (Some q.front) q

abbrev pub is_empty_answer : Queue → Answered Bool
is_empty_answer q = answered (is_valid q) q (is_empty q) q
