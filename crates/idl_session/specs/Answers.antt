-- The claim: what goes out is replies to what came in, and the session is in the state that they
-- tell of.
use Rattle.std.specs.Prelude.{◌≡◌, ℕ, List, [], ◌∷◌, ◌++◌, Result}
use Rattle.idl_source.specs.declared.refusal.Refusal.{Refusal}
use Rattle.idl_source.specs.declared.refusal.Refusal.TheVariants as refusal
use Rattle.idl_project.specs.Edited.{IsEdited}
use Rattle.idl_inputs.specs.Edits.{Edit}
use Rattle.idl_project.specs.UpToDate.{State}
use Rattle.idl_project.specs.declared.work.Work.{Work}
use Rattle.idl_session.specs.Commands.{Command, Malformed, Unfinished, Make, Ask, TellWork, commands_of}
use Rattle.idl_session.specs.replies.Replies.{refused_reply, edit_reply, query_reply, work_reply}
use Rattle.idl_session.specs.replies.Rows.{rows_for}

-- nothing but a refusal of the command
abbrev pub IsTurnedAway : State → Refusal → List ℕ → State → Type 0
IsTurnedAway s refusal reply t = (reply ≡ refused_reply refusal) × (t ≡ s)

-- an edit, and the reply that tells its result
abbrev pub IsEditAnswered : State → Edit → List ℕ → State → Type 0
IsEditAnswered s edit reply t =
    (result : Result Work Refusal) × IsEdited edit s t result × (reply ≡ edit_reply result)

-- the reply to a command, and the state after it; a question changes nothing
abbrev pub Answers : State → Command → List ℕ → State → Type 0
Answers s Malformed reply t = IsTurnedAway s refusal.Malformed reply t
Answers s Unfinished reply t = IsTurnedAway s refusal.Unfinished reply t
Answers s (Make edit) reply t = IsEditAnswered s edit reply t
Answers s (Ask question name) reply t =
    (reply ≡ query_reply name (rows_for s.project question name)) × (t ≡ s)
Answers s TellWork reply t = (reply ≡ work_reply s.work) × (t ≡ s)

-- the replies to commands in order, end to end, and the state after all
abbrev pub Replies : State → List Command → List ℕ → State → Type 0
Replies s [] output t = (output ≡ []) × (t ≡ s)
Replies s (command ∷ commands) output t =
    (mid : State) × (reply : List ℕ) × (more : List ℕ)
    × Answers s command reply mid × (output ≡ reply ++ more) × Replies mid commands more t

-- the bytes that go out for those that came in, and the state after
abbrev pub IsReply : State → List ℕ → List ℕ → State → Type 0
IsReply s input output t = Replies s (commands_of input) output t
