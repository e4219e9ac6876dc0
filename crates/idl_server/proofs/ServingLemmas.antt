-- What a server says and is told, message after message.
use Rattle.std.proofs.Common.{◌≡◌, ◌≢◌, ◌∙◌, ◌⊎◌, ◌+◌, ◌<◌, ◌++◌, ◌∷◌, [], ℕ, List, None, Ok, Err, Option, Result, Some, ap, append_assoc, append-nil, get_or, inl, inr, length, map, refl, subst, sym, take}
use Rattle.std.proofs.lemmas.Grind.{flat_map-append}
use Rattle.std.proofs.lemmas.List.{map-append, take_more}
use Rattle.std.proofs.lemmas.List.Elements.{Contains-append_left, Contains-push}
use Rattle.std.specs.Global.{Global}
use Rattle.std.specs.List.{Contains}
use Rattle.std.specs.Prelude.{Vec}
use Rattle.std.specs.Result.{IsErr, OnErr, OnOk}
use Rattle.serde_json.specs.Data.{Data, null}
use Rattle.serde_json.specs.View.{view}
use Rattle.serde_json.specs.declared.value.Value.{Value}
use Rattle.idl_source.specs.devices.Device.{append, prepend}
use Rattle.idl_source.proofs.DeviceLemmas.{append-append}
use Rattle.idl_editor.specs.documents.Notices.{json_of, told_by_notice}
use Rattle.idl_editor.specs.frames.Reading.{Receives, TakesMessage}
use Rattle.idl_editor.specs.declared.frames.reader.Received.{Received}
use Rattle.idl_editor.specs.declared.frames.reader.Received.TheVariants.{Body, End, Unfinished, NoHead, OverLimit}
use Rattle.idl_loader.specs.declared.status.Status.TheVariants.{Faulty}
use Rattle.idl_editor.specs.frames.Written.{message_of}
use Rattle.idl_editor.specs.messages.Answers.{answer_json, error_json, notice_json}
use Rattle.idl_editor.specs.messages.Message.{IsMessage}
use Rattle.idl_editor.specs.declared.messages.answer.ErrorCode.{ErrorCode}
use Rattle.idl_editor.specs.declared.messages.answer.ErrorCode.TheVariants.{Internal}
use Rattle.idl_editor.specs.declared.messages.message.Message.{Message}
use Rattle.idl_editor.specs.declared.messages.message.Message.TheVariants.{Invalid}
use Rattle.idl_editor.specs.declared.messages.method.Method.{Method}
use Rattle.idl_editor.specs.declared.messages.method.Method.TheVariants.{Exit, Initialize, Shutdown}
use Rattle.idl_editor.specs.uris.Folders.{FolderNamed}
use Rattle.idl_loader.specs.Holding.{Holding}
use Rattle.idl_server.specs.Messages.{IsAnswered, IsMessageOf, answered, answered_by, next_by, outcome_by}
use Rattle.idl_server.specs.Published.{ArePublished}
use Rattle.idl_server.specs.Late.{TakesIn}
use Rattle.idl_server.specs.Server.{IsSettled}
use Rattle.idl_server.specs.Serving.{AreServed, AreWritten, HasStepped, IsNoBody, IsServed, IsWritten, Serves, TakesMessages, status_by}
use Rattle.idl_server.specs.declared.server.Phase.{Phase}
use Rattle.idl_server.specs.declared.server.Phase.TheVariants.{Running, ShutDown, Waiting}
use Rattle.idl_server.specs.declared.server.Server.{Server}
use Rattle.idl_server.specs.declared.server.StepOutcome.{StepOutcome}
use Rattle.idl_server.specs.declared.server.StepOutcome.TheVariants.{BreaksOff, Ends, Goes}
use Rattle.idl_server.specs.declared.workspace.Workspace.{Workspace}

-- ---- which ids are answered

pub answered-append : (a b : List Data) → answered (a ++ b) ≡ answered a ++ answered b
answered-append a b = flat_map-append answered_by a b

-- one more message was said
said-one : (before after : List Data) (json : Data) → after ≡ before ++ json ∷ [] → answered after ≡ answered before ++ answered (json ∷ [])
said-one before after json is = ap answered is ∙ answered-append before (json ∷ [])

pub answered-answer : (before after : List Data) (id outcome : Data) → after ≡ before ++ answer_json id outcome ∷ [] → answered after ≡ answered before ++ id ∷ []
answered-answer before after id outcome is = said-one before after (answer_json id outcome) is

pub answered-error : (before after : List Data) (id : Data) (code : ErrorCode) → after ≡ before ++ error_json id code ∷ [] → answered after ≡ answered before ++ id ∷ []
answered-error before after id code is = said-one before after (error_json id code) is

-- what is no message has no id
pub answered-null : (before after : List Data) (id : Data) (code : ErrorCode) → id ≡ null → after ≡ before ++ error_json id code ∷ [] → answered after ≡ answered before ++ null ∷ []
answered-null before after id code none is = answered-error before after id code is ∙ ap (λ (i : Data). answered before ++ i ∷ []) none

pub answered-notice : (before after : List Data) (method : List ℕ) (params : Data) → after ≡ before ++ notice_json method params ∷ [] → answered after ≡ answered before
answered-notice before after method params is = said-one before after (notice_json method params) is ∙ append-nil (answered before)

-- what was said stays said
pub said-stays : (w : Workspace) (before after : List Data) (json : Data) → ArePublished w before after → Contains before json → Contains after json
said-stays w before after json more there =
    subst (λ (said : List Data). Contains said json) (sym more.1) (Contains-append_left before more.0 json there)

pub said-last : (before after : List Data) (json : Data) → after ≡ before ++ json ∷ [] → Contains after json
said-last before after json is = subst (λ (said : List Data). Contains said json) (sym is) (Contains-push before json)

-- a request led a server on, or there was no memory for it
pub led-by : {T E : Type 0} (result : Result T E) (w : Workspace) (old new : Phase) (method : Method) (id : Data) (mid after : List Data) → OnOk result (new ≡ next_by old method) → OnErr result (new ≡ old)
    → (IsErr result → Contains mid (error_json id Internal)) → ArePublished w mid after → (new ≡ next_by old method) ⊎ ((new ≡ old) × Contains after (error_json id Internal))
led-by (Ok x) w old new method id mid after led kept memory more = inl led
led-by (Err e) w old new method id mid after led kept memory more = inr (kept, said-stays w mid after (error_json id Internal) more (memory refl))

-- ---- which message a body is

abbrev message_in : Option Data → Message → Type 0
message_in o message = elim o [ None ↦ message ≡ Invalid | Some json ↦ IsMessage json message ]

pub message-none : (body : List ℕ) → json_of body ≡ None → IsMessageOf body Invalid
message-none body none = subst (λ (o : Option Data). message_in o Invalid) (sym none) refl

pub message-some : (body : List ℕ) (json : Data) (message : Message) → json_of body ≡ Some json → IsMessage json message → IsMessageOf body message
message-some body json message some is = subst (λ (o : Option Data). message_in o message) (sym some) is

-- ---- where a message leads

pub waits-on : (method : Method) → (method ≡ Initialize → ⊥) → next_by Waiting method ≡ Waiting
waits-on Initialize not = absurd (not refl)
waits-on method not = refl

pub runs-on : (method : Method) → (method ≡ Shutdown → ⊥) → next_by Running method ≡ Running
runs-on Shutdown not = absurd (not refl)
runs-on method not = refl

-- what ends a server tells nothing of documents
pub ends-told : (folders : List FolderNamed) (phase : Phase) (method : Method) (params : Data) → (outcome_by phase method ≡ Goes → ⊥) → told_by_notice folders method params ≡ None
ends-told folders phase Exit params not = refl
ends-told folders Waiting method params not = absurd (not refl)
ends-told folders Running method params not = absurd (not refl)
ends-told folders ShutDown method params not = absurd (not refl)

-- ---- one message after another

pub serves-more : (told : List ℕ → Holding) (old mid new : Server) (bodies : List (List ℕ)) (body : List ℕ) (said more : List Data) → Serves told old bodies said mid → HasStepped told body mid more new Goes
    → Serves told old (bodies ++ body ∷ []) (said ++ more) new
serves-more told old mid new [] body said more before steps =
    (new, more, [], subst (λ (server : Server). HasStepped told body server more new Goes) before.1 steps, ap (λ (s : List Data). s ++ more) before.0 ∙ sym (append-nil more), (refl, refl))
serves-more told old mid new (first ∷ bodies) body said more before steps = (
  before.0,
  before.1,
  before.2 ++ more,
  before.3,
  ap (λ (s : List Data). s ++ more) before.4 ∙ append_assoc before.1 before.2 more,
  serves-more told before.0 mid new bodies body before.2 more before.5 steps,
)

pub takes-more : (bodies : List (List ℕ)) (body : List ℕ) (old mid new : Option (List ℕ)) → TakesMessages bodies old mid → TakesMessage body mid new → TakesMessages (bodies ++ body ∷ []) old new
takes-more [] body old mid new before one = (new, subst (λ (stream : Option (List ℕ)). TakesMessage body stream new) (sym before) one, refl)
takes-more (first ∷ bodies) body old mid new before one = (before.0, before.1, takes-more bodies body before.0 mid new before.2 one)

-- what a step comes to, where nothing was to be said before
pub steps-said : (told : List ℕ → Holding) (body : List ℕ) (old new : Server) (before said : List Data) (outcome : StepOutcome) → before ≡ [] → TakesIn body old new before said → IsSettled told new
    → (message : Message) × IsMessageOf body message × IsAnswered message old.phase new.phase before said outcome → HasStepped told body old said new outcome
steps-said told body old new before said outcome none taken settled answers = record {
  message = answers.0;
  is_message = answers.1;
  taken = subst (λ (b : List Data). TakesIn body old new b said) none taken;
  settled = settled;
  answered = subst (λ (b : List Data). IsAnswered answers.0 old.phase new.phase b said outcome) none answers.2;
}

-- a step as it is told of a body and of what comes of it
pub stepped-as : (lent told : List ℕ → Holding) (given body : List ℕ) (old new : Server) (said : List Data) (was is : StepOutcome) → lent ≡ told → given ≡ body → was ≡ is
    → HasStepped lent given old said new was → HasStepped told body old said new is
stepped-as lent told given body old new said was is a b o steps =
    subst (λ (t : List ℕ → Holding). HasStepped t body old said new is) a
    (subst (λ (bytes : List ℕ). HasStepped lent bytes old said new is) b (subst (λ (outcome : StepOutcome). HasStepped lent given old said new outcome) o steps))

-- ---- what is written

pub written-both : (said more : List Data) (text rest : List ℕ) → AreWritten said text → AreWritten more rest → AreWritten (said ++ more) (text ++ rest)
written-both [] more text rest none are = subst (λ (t : List ℕ). AreWritten more (t ++ rest)) (sym none) are
written-both (json ∷ said) more text rest some are = (
  some.0,
  some.1 ++ rest,
  some.2,
  ap (λ (t : List ℕ). t ++ rest) some.3 ∙ append_assoc (message_of some.0) some.1 rest,
  written-both said more some.1 rest some.4 are,
)

pub written-one : (json : Data) (body : List ℕ) → IsWritten json body → AreWritten (json ∷ []) (message_of body)
written-one json body is = (body, [], is, sym (append-nil (message_of body)), refl)

-- one more value is written
pub written-next : (values : List Value) (i : ℕ) (value : Value) (text body : List ℕ) → i < length values → value ≡ get_or values i value → AreWritten (map view (take i values)) text
    → IsWritten (view value) body → AreWritten (map view (take (i + 1) values)) (text ++ message_of body)
written-next values i value text body within is before one =
    let more : take (i + 1) values ≡ take i values ++ value ∷ [] = take_more values i value within ∙ ap (λ (v : Value). take i values ++ v ∷ []) (sym is) in
    let all : map view (take (i + 1) values) ≡ map view (take i values) ++ view value ∷ [] = ap (map view) more ∙ map-append view (take i values) (value ∷ []) in
    subst (λ (said : List Data). AreWritten said (text ++ message_of body)) (sym all)
    (written-both (map view (take i values)) (view value ∷ []) text (message_of body) before (written-one (view value) body one))

pub prepend-none : (o : Option (List ℕ)) → o ≡ prepend [] o
prepend-none None = refl
prepend-none (Some bytes) = refl

-- nothing is held where nothing is to come
pub held-none : (held : List ℕ) (o : Option (List ℕ)) → prepend held o ≡ Some [] → held ≡ []
held-none [] o over = refl
held-none (b ∷ held) o over = absurd (more b held o over)
  where
    more : (b : ℕ) (held : List ℕ) (o : Option (List ℕ)) → prepend (b ∷ held) o ≡ Some [] → ⊥
    more b held None h = absurd (cc)
    more b held (Some bytes) h = absurd (cc)

pub append-none : (o : Option (List ℕ)) → o ≡ append o []
append-none None = refl
append-none (Some bytes) = ap (λ (b : List ℕ). Some b) (sym (append-nil bytes))

-- ---- a session

-- none came yet
pub served-none : (told : List ℕ → Holding) (server : Server) (stream left written : Option (List ℕ)) → stream ≡ left → server.late.keys ≡ [] → AreServed told server stream left written written server
served-none told server stream left written same none =
    record { bodies = []; said = []; text = []; taken = same; served = (refl, refl); on_time = λ over. none; texts = refl; written = append-none written }

-- one more came
pub served-more : (told : List ℕ → Holding) (old mid new : Server) (stream left rest before written after : Option (List ℕ)) (body : List ℕ) (said : List Data) (text : List ℕ)
    → AreServed told old stream left before written mid → TakesMessage body left rest → HasStepped told body mid said new Goes → (rest ≡ Some [] → new.late.keys ≡ []) → AreWritten said text
    → after ≡ append written text → AreServed told old stream rest before after new
served-more told old mid new stream left rest before written after body said text are one steps on_time texts next = record {
  bodies = are.bodies ++ body ∷ [];
  said = are.said ++ said;
  text = are.text ++ text;
  taken = takes-more are.bodies body stream left rest are.taken one;
  served = serves-more told old mid new are.bodies body are.said said are.served steps;
  on_time = on_time;
  texts = written-both are.said said are.text text are.texts texts;
  written = next ∙ ap (λ (o : Option (List ℕ)). append o text) are.written ∙ append-append before are.text text;
}

-- no further message is there
pub served-out : (told : List ℕ → Holding) (old new : Server) (stream left before after rest : Option (List ℕ)) (received : Received) → AreServed told old stream left before after new
    → Receives received left rest → IsNoBody received → IsServed told old stream before after Faulty
served-out told old new stream left before after rest received are none no_body = record {
  left = left;
  mid = after;
  new = new;
  served = are;
  said = [];
  text = [];
  ends = inr (received, rest, none, no_body, refl, refl);
  texts = refl;
  written = append-none after;
}

-- the last message ended it
pub served-end : (told : List ℕ → Holding) (old mid new : Server) (stream left rest before written after : Option (List ℕ)) (body : List ℕ) (said : List Data) (text : List ℕ) (outcome : StepOutcome)
    → AreServed told old stream left before written mid → TakesMessage body left rest → HasStepped told body mid said new outcome → outcome ≢ Goes → AreWritten said text → after ≡ append written text
    → IsServed told old stream before after (status_by outcome)
served-end told old mid new stream left rest before written after body said text outcome are one steps end texts next = record {
  left = left;
  mid = written;
  new = mid;
  served = are;
  said = said;
  text = text;
  ends = inl (body, rest, new, outcome, one, steps, end, refl);
  texts = texts;
  written = next;
}

pub none-came : (received : Received) → ((body : Vec ℕ Global) → received ≢ Body body) → IsNoBody received
none-came (Body body) not = absurd (not body refl)
none-came End not = tt
none-came Unfinished not = tt
none-came NoHead not = tt
none-came OverLimit not = tt

pub ends-not : Ends ≢ Goes
ends-not h = absurd (cc)

pub breaks-not : BreaksOff ≢ Goes
breaks-not h = absurd (cc)
