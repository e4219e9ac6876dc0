-- What one message of an editor comes to.
use Rattle.std.specs.Prelude.{◌≡◌, ◌⊎◌, ◌++◌, ℕ, List, [], ◌∷◌, Contains, Option, None, Some, flat_map}
use Rattle.serde_json.specs.Data.{Data, null}
use Rattle.serde_json.specs.View.{view}
use Rattle.serde_json.specs.declared.value.Value.{Value}
use Rattle.idl_editor.specs.documents.Notices.{json_of}
use Rattle.idl_editor.specs.messages.Answers.{error_json}
use Rattle.idl_editor.specs.messages.Message.{IsMessage, id_in}
use Rattle.idl_editor.specs.declared.messages.answer.ErrorCode.TheVariants.{Internal, NoJson}
use Rattle.idl_editor.specs.declared.messages.message.Message.{Message}
use Rattle.idl_editor.specs.declared.messages.message.Message.TheVariants.{Request, Notice, Invalid}
use Rattle.idl_editor.specs.declared.messages.method.Method.{Method}
use Rattle.idl_editor.specs.declared.messages.method.Method.TheVariants.{Exit, Initialize, Shutdown}
use Rattle.idl_server.specs.declared.server.Phase.{Phase}
use Rattle.idl_server.specs.declared.server.Phase.TheVariants.{Running, ShutDown, Waiting}
use Rattle.idl_server.specs.declared.server.StepOutcome.{StepOutcome}
use Rattle.idl_server.specs.declared.server.StepOutcome.TheVariants.{Goes, Ends, BreaksOff}

-- the message of a body: what is no JSON is none
abbrev pub IsMessageOf : List ℕ → Message → Type 0
IsMessageOf body message =
    elim (json_of body) [ None ↦ message ≡ Invalid | Some json ↦ IsMessage json message ]

-- the JSON of a body, or that it is none, which is told
abbrev pub IsRead : List ℕ → Option Value → List Data → List Data → Type 0
IsRead body (Some value) before after = (json_of body ≡ Some (view value)) × (after ≡ before)
IsRead body None before after =
    (json_of body ≡ None) × (after ≡ before ++ error_json null NoJson ∷ [])

-- under which ids a message is answered: a request under its own, what is no message under `null`
-- (JSON-RPC 2.0, 5), and nothing else
abbrev pub asked_by : Message → List Data
asked_by (Request id method params) = view id.now ∷ []
asked_by Invalid = null ∷ []
asked_by message = []

-- the ids of answers: a notice has none
abbrev pub answered_by : Data → List Data
answered_by json = elim (id_in json) [ None ↦ [] | Some id ↦ id ∷ [] ]

abbrev pub answered : List Data → List Data
answered said = flat_map answered_by said

-- where a request leads a server
abbrev pub next_by : Phase → Method → Phase
next_by Waiting Initialize = Running
next_by Running Shutdown = ShutDown
next_by phase method = phase

-- a message led a server there, or there was no memory for it, which is its answer
abbrev pub IsLed : Message → Phase → Phase → List Data → Type 0
IsLed (Request id method params) old new said =
    (new ≡ next_by old method) ⊎ ((new ≡ old) × Contains said (error_json (view id.now) Internal))
IsLed message old new said = new ≡ old

-- what comes of a notice: `exit` ends a server, and breaks it off that wasn't shut down
abbrev pub outcome_by : Phase → Method → StepOutcome
outcome_by ShutDown Exit = Ends
outcome_by phase Exit = BreaksOff
outcome_by phase method = Goes

abbrev pub outcome_of : Phase → Message → StepOutcome
outcome_of phase (Notice method params) = outcome_by phase method
outcome_of phase message = Goes

-- a message was answered, and led a server from one phase to another
pub record IsAnswered (message : Message) (old new : Phase) (before after : List Data)
    (outcome : StepOutcome) : Type 0 where
  pub answers : answered after ≡ answered before ++ asked_by message
  pub led : IsLed message old new after
  pub ends : outcome ≡ outcome_of old message
