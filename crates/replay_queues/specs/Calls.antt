-- A stored call on a queue's record: which one, on which node, what it must answer, and what it leaves. Definitions only.
use Rattle.std.specs.Prelude.{◌≡◌, ◌≢◌, ℕ, List, true, false, ◌==◌, ◌&&◌, cond, Option, Some, None, Result, Ok, Err, MatchOption}
use Rattle.sheet.specs.Words.{word}
use Rattle.sheet.specs.Refusals.{number_of}
use Rattle.sheet.specs.declared.refusal.Refusal.{Refusal}
use Rattle.state_order_queue.specs.declared.Queue.{Queue}
use Rattle.state_order_queue.specs.declared.Answered.{Answered}
use Rattle.state_order_queue.specs.Queues.{is_valid}
use Rattle.state_order_queue.specs.Answers.{enqueue_answer, update_answer, clear_answer, dequeue_answer, head_answer, is_empty_answer}
use Rattle.replay_queues.specs.declared.calls.Call.{Call}
use Rattle.replay_queues.specs.declared.calls.Answer.{Answer}
use Rattle.replay_queues.specs.declared.calls.Unknown.{Unknown}
use Rattle.replay_queues.specs.declared.calls.Made.{Made}

-- the call of a number: the last one's from six on
abbrev pub call_of : ℕ → Call
call_of n =
    cond (n == 0) Call.Enqueue
    (cond (n == 1) Call.Dequeue
    (cond (n == 2) Call.Head
    (cond (n == 3) Call.Update
    (cond (n == 4) Call.IsEmpty
    (cond (n == 5) Call.Clear
    Call.IsValid)))))

-- the answer of a kind and a value
abbrev pub answer_of : ℕ → ℕ → Result Answer Unknown
answer_of kind value =
    cond (kind == 0 && value == 0) (Ok Answer.Done)
    (cond (kind == 1) (Ok (Answer.Node value))
    (cond (kind == 2 && value == 0) (Ok Answer.None)
    (cond (kind == 3) (Ok (Answer.Refused value))
    (cond (kind == 4 && value == 0) (Ok (Answer.Test false))
    (cond (kind == 4 && value == 1) (Ok (Answer.Test true))
    (Err (record {})))))))

abbrev pub made_by : Call → ℕ → Result Answer Unknown → Result Made Unknown
made_by call node (Ok answer) = Ok (record { call = call; node = node; answer = answer })
made_by call node (Err e) = Err e

-- the call of four words: its number, the node, and its answer's kind and value
abbrev pub made_of : List ℕ → Result Made Unknown
made_of bytes = made_by (call_of (word bytes 0)) (word bytes 4) (answer_of (word bytes 8) (word bytes 12))

-- ---- what a call answers

abbrev pub node_answer : Option ℕ → Answer
node_answer (Some v) = Answer.Node v
node_answer None = Answer.None

abbrev pub result_answer : {A : Type 0} → (A → Answer) → Result A Refusal → Answer
result_answer tell (Ok value) = tell value
result_answer tell (Err refusal) = Answer.Refused (number_of refusal)

-- the answer, and the queue that is handed back
abbrev pub told : {A : Type 0} → (A → Answer) → Answered A → Answer × Queue
told tell a = (result_answer tell a.answer, a.queue)

abbrev pub given_by : Call → ℕ → Queue → Answer × Queue
given_by Call.Enqueue v q = told (λ _. Answer.Done) (enqueue_answer q v)
given_by Call.Dequeue v q = told node_answer (dequeue_answer q)
given_by Call.Head v q = told node_answer (head_answer q)
given_by Call.Update v q = told (λ _. Answer.Done) (update_answer q v)
given_by Call.IsEmpty v q = told Answer.Test (is_empty_answer q)
given_by Call.Clear v q = told (λ _. Answer.Done) (clear_answer q)
given_by Call.IsValid v q = (Answer.Test (is_valid q), q)

-- the queue that a stored call leaves: the one that it hands back, where it gives the answer that it must give
abbrev pub Leaves : Made → Queue → Option Queue → Type 0
Leaves made q left = let given = given_by made.call made.node q in MatchOption left (given.0 ≢ made.answer) (λ r. (given.0 ≡ made.answer) × (r ≡ given.1))
