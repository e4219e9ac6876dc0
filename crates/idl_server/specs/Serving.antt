-- What a server does from the first message to the last.
use Rattle.std.specs.Prelude.{◌≡◌, ◌≢◌, ◌≤◌, ◌⊎◌, ◌++◌, ℕ, List, [], ◌∷◌, Option, Some}
use Rattle.std.specs.Str.{IsUtf8}
use Rattle.serde_json.specs.Data.{Data, depth}
use Rattle.serde_json.specs.Read.{max_depth, read}
use Rattle.serde_json.specs.Written.{IsInOrder}
use Rattle.idl_source.specs.devices.Device.{append}
use Rattle.idl_editor.specs.frames.Reading.{Receives, TakesMessage}
use Rattle.idl_editor.specs.frames.Written.{message_of}
use Rattle.idl_editor.specs.declared.frames.reader.Received.{Received}
use Rattle.idl_editor.specs.declared.frames.reader.Received.TheVariants.{Body}
use Rattle.idl_editor.specs.declared.messages.message.Message.{Message}
use Rattle.idl_loader.specs.Holding.{Holding}
use Rattle.idl_loader.specs.declared.status.Status.{Status}
use Rattle.idl_loader.specs.declared.status.Status.TheVariants.{Faulty, Sound}
use Rattle.idl_server.specs.Messages.{IsAnswered, IsMessageOf}
use Rattle.idl_server.specs.Late.{TakesIn}
use Rattle.idl_server.specs.Server.{IsSettled}
use Rattle.idl_server.specs.declared.server.Server.{Server}
use Rattle.idl_server.specs.declared.server.StepOutcome.{StepOutcome}
use Rattle.idl_server.specs.declared.server.StepOutcome.TheVariants.{Ends, Goes}

-- a server took a body in, said this, and is between messages again
pub record HasStepped (told : List ℕ → Holding) (body : List ℕ) (old : Server) (said : List Data)
    (new : Server) (outcome : StepOutcome) : Type 0 where
  pub message : Message
  pub is_message : IsMessageOf body message
  pub taken : TakesIn body old new [] said
  pub settled : IsSettled told new
  pub answered : IsAnswered message old.phase new.phase [] said outcome

-- a server took in one body after another, and said this
abbrev pub Serves : (List ℕ → Holding) → Server → List (List ℕ) → List Data → Server → Type 0
Serves told old [] said new = (said ≡ []) × (new ≡ old)
Serves told old (body ∷ bodies) said new =
    (mid : Server) × (first : List Data) × (rest : List Data)
    × HasStepped told body old first mid Goes
    × (said ≡ first ++ rest) × Serves told mid bodies rest new

-- messages of these bodies went, one after another
abbrev pub TakesMessages : List (List ℕ) → Option (List ℕ) → Option (List ℕ) → Type 0
TakesMessages [] old new = old ≡ new
TakesMessages (body ∷ bodies) old new =
    (mid : Option (List ℕ)) × TakesMessage body old mid × TakesMessages bodies mid new

-- bytes are values, each written as the body of a message. A deep one keeps its form alone
abbrev pub IsWritten : Data → List ℕ → Type 0
IsWritten json body =
    IsUtf8 body × IsInOrder body json × (depth json ≤ max_depth → read body ≡ Some json)

abbrev pub AreWritten : List Data → List ℕ → Type 0
AreWritten [] text = text ≡ []
AreWritten (json ∷ said) text =
    (body : List ℕ) × (rest : List ℕ) × IsWritten json body
    × (text ≡ message_of body ++ rest) × AreWritten said rest

-- no message came
abbrev pub IsNoBody : Received → Type 0
IsNoBody (Body body) = ⊥
IsNoBody received = Unit {0}

-- how a program ends by what its last message came to
abbrev pub status_by : StepOutcome → Status
status_by Ends = Sound
status_by outcome = Faulty

-- an editor ends a server by a message that goes, or no further message is there
abbrev pub IsEnded : (List ℕ → Holding) → Server → Option (List ℕ) → List Data → Status → Type 0
IsEnded told server stream said status =
    ((body : List ℕ) × (left : Option (List ℕ)) × (new : Server) × (outcome : StepOutcome)
    × TakesMessage body stream left × HasStepped told body server said new outcome
    × (outcome ≢ Goes) × (status ≡ status_by outcome))
    ⊎ ((received : Received) × (left : Option (List ℕ)) × Receives received stream left
    × IsNoBody received × (said ≡ []) × (status ≡ Faulty))

-- messages of a stream were served from the first one on: each was taken in and answered once, in
-- order, and what was said is what was written. Where no more is to come no document is late
pub record AreServed (told : List ℕ → Holding) (old : Server)
    (stream left before after : Option (List ℕ)) (new : Server) : Type 0 where
  pub bodies : List (List ℕ)
  pub said : List Data
  pub text : List ℕ
  pub taken : TakesMessages bodies stream left
  pub served : Serves told old bodies said new
  pub on_time : left ≡ Some [] → new.late.keys ≡ []
  pub texts : AreWritten said text
  pub written : after ≡ append before text

-- all of them were, to the end
pub record IsServed (told : List ℕ → Holding) (old : Server) (stream before after : Option (List ℕ))
    (status : Status) : Type 0 where
  pub left : Option (List ℕ)
  pub mid : Option (List ℕ)
  pub new : Server
  pub served : AreServed told old stream left before mid new
  pub said : List Data
  pub text : List ℕ
  pub ends : IsEnded told new left said status
  pub texts : AreWritten said text
  pub written : after ≡ append mid text
