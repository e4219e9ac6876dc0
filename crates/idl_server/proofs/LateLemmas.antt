-- The session gets the text of a document later.
use Rattle.std.proofs.Common.{◌≡◌, ◌∙◌, ◌+◌, ◌<◌, ◌⊎◌, ◌++◌, ◌∷◌, [], ℕ, All, Bool, true, false, List, Option, None, Err, Ok, Result, Some, ap, append-nil, get_or, inl, inr, is_some, length, refl, subst, sym, take, true≢false}
use Rattle.std.proofs.lemmas.List.{take_more}
use Rattle.std.proofs.lemmas.List.Elements.{All-weaker}
use Rattle.std.specs.Cmp.Lexicographic.{bytes_decides}
use Rattle.std.specs.FinMap as finite
use Rattle.std.specs.List.{list_any}
use Rattle.std.specs.Map.{lookup}
use Rattle.std.specs.Option.{IsSome, option_map}
use Rattle.std.specs.Prelude.{option_and_then}
use Rattle.std.specs.Borrow.{Bor}
use Rattle.std.specs.Result.{OnOk}
use Rattle.std.specs.Str.{bytes_eq}
use Rattle.serde_json.specs.Data.{Data, null}
use Rattle.serde_json.specs.View.{view}
use Rattle.serde_json.specs.declared.value.Value.{Value}
use Rattle.idl_project.specs.idl_sources.Compile.{compiled_root}
use Rattle.idl_project.specs.UpToDate.{State}
use Rattle.idl_editor.specs.documents.Documents.{AreSameBeside, Changed, TextChange, Told, text_after_all, texts_of}
use Rattle.idl_editor.specs.documents.Notices.{changes_told, json_of, name_in, told_by_message, told_by_notice}
use Rattle.idl_editor.specs.messages.Params.{both}
use Rattle.idl_editor.specs.uris.Folders.{FolderNamed}
use Rattle.idl_editor.specs.messages.Answers.{error_json}
use Rattle.idl_editor.specs.declared.messages.answer.ErrorCode.TheVariants.{NoJson}
use Rattle.idl_editor.specs.declared.messages.message.Message.{Message}
use Rattle.idl_editor.specs.declared.messages.message.Message.TheVariants.{Invalid, Notice}
use Rattle.idl_editor.specs.declared.messages.method.Method.TheVariants.{DidChange}
use Rattle.idl_editor.specs.declared.documents.document.Document.{Document}
use Rattle.idl_loader.specs.Holding.{Holding}
use Rattle.idl_server.specs.Files.{AreFiled, AreTried, IsFiled, IsKept, IsTried, StaysBeside, StaysButText, StaysSet, told_by}
use Rattle.idl_server.specs.Roots.{AreCovered, AreRooted, IsCompiled, IsFull, IsOpen, IsThere}
use Rattle.idl_editor.specs.messages.Message.{id_in}
use Rattle.idl_server.specs.Late.{ArePublishedOnTime, ArePut, CatchesUp, FindsNoneLate, HasCaughtUp, IsChange, IsPut, TakesIn}
use Rattle.idl_server.specs.Messages.{IsAnswered, IsMessageOf, answered, asked_by, outcome_by}
use Rattle.idl_server.specs.Published.{ArePublished}
use Rattle.idl_server.specs.Server.{HasTaken, IsLate, IsSettled, if_running, late_by, late_in, told_to}
use Rattle.idl_server.specs.declared.server.Phase.{Phase}
use Rattle.idl_server.specs.declared.server.Phase.TheVariants.{Running, ShutDown, Waiting}
use Rattle.idl_server.specs.declared.server.Server.{Server}
use Rattle.idl_server.specs.declared.server.StepOutcome.{StepOutcome}
use Rattle.idl_server.specs.declared.server.StepOutcome.TheVariants.{Goes}
use Rattle.idl_server.specs.declared.workspace.Workspace.{Workspace}
use Rattle.idl_server.proofs.CoveredLemmas.{rooted-changed, text-open}
use Rattle.idl_server.proofs.HeldLemmas.{late-beside}
use Rattle.idl_server.proofs.NoticeLemmas.{both-lost, taken-kept, taken-same, texts-with, told-json, told-nothing, told-notice}
use Rattle.idl_server.proofs.PublishedLemmas.{error-published, one-published}
use Rattle.idl_server.proofs.ServerLemmas.{told-settled}
use Rattle.idl_server.proofs.ServingLemmas.{answered-null, message-none, message-some}
use Rattle.idl_server.proofs.WorkspaceLemmas.{all-beside, filed-alike, on_ok_both, set-both, set-same}

-- ---- what a message tells

pub told-caught : (old mid : Server) (body : List ℕ) → CatchesUp old mid → told_to mid body ≡ told_to old body
told-caught old mid body (inl same) = ap (λ (server : Server). told_to server body) same
told-caught old mid body (inr caught) = λ i. if_running (caught.phase i) (option_and_then (told_by_message (caught.set.folders i)) (json_of body))

-- the session got the text before
pub takes-then : (old mid new : Server) (body : List ℕ) (before between after : List Data) → CatchesUp old mid → FindsNoneLate body mid → HasTaken (told_to old body) mid new → ArePublishedOnTime mid before between
    → ArePublishedOnTime new between after → TakesIn body old new before after
takes-then old mid new body before between after caught on_time taken early later =
    record { caught = mid; moved = new; between = between; first = caught; on_time = on_time; taken = taken; last = inl refl; early = early; later = later }

-- or after
pub takes-before : (old mid new : Server) (body : List ℕ) (before between after : List Data) → FindsNoneLate body old → HasTaken (told_to old body) old mid → CatchesUp mid new → ArePublishedOnTime old before between
    → ArePublishedOnTime new between after → TakesIn body old new before after
takes-before old mid new body before between after on_time taken caught early later =
    record { caught = old; moved = mid; between = between; first = inl refl; on_time = on_time; taken = taken; last = caught; early = early; later = later }

-- no request is what is no JSON
pub unread-asks : (body : List ℕ) (server : Server) → json_of body ≡ None → FindsNoneLate body server
unread-asks body server none = λ json id some asks. absurd (no-json json (sym none ∙ some))
  where
    no-json : (json : Data) → ◌≡◌ {A = Option Data} None (Some json) → ⊥
    no-json json h = absurd (cc)

-- nor is a change
pub change-asks : (body : List ℕ) (json params : Data) (server : Server) → json_of body ≡ Some json → IsChange json params → FindsNoneLate body server
change-asks body json params server some is = λ other id there asks. absurd (no-id id (sym is.0 ∙ ap id_in (one json other (sym some ∙ there)) ∙ asks))
  where
    no-id : (id : Data) → ◌≡◌ {A = Option Data} None (Some id) → ⊥
    no-id id h = absurd (cc)

    one : (json other : Data) → ◌≡◌ {A = Option Data} (Some json) (Some other) → json ≡ other
    one json other h = cc

-- ---- a document whose text changed is open as before

module _ (name : List ℕ) (f : List ℕ → List ℕ) (old new : Workspace) (beside : AreSameBeside name old.documents.entries new.documents.entries)
    (text : texts_of new.documents.entries name ≡ option_map f (texts_of old.documents.entries name)) where
  pub open-on : (other : List ℕ) → IsOpen old other → IsOpen new other
  open-on other is = by (bytes_eq name other) refl
    where
      some : (found : Option Document) → lookup (bytes_eq name) old.documents.entries ≡ found → IsSome found → texts_of new.documents.entries name ≡ option_map f (option_map (λ d. d.text.items) found) → IsOpen new name
      some (Some d) at there h = text-open new name (f d.text.items) h
      some None at there h = absurd (true≢false (sym there))

      by : (b : Bool) → bytes_eq name other ≡ b → IsOpen new other
      by true alike =
          let same = (bytes_decides name other).0 alike in
          subst (λ (n : List ℕ). IsOpen new n) same (some (lookup (bytes_eq name) old.documents.entries) refl (subst (λ (n : List ℕ). IsOpen old n) (sym same) is) text)
      by false apart = subst (λ (o : Option Document). IsSome o) (sym (beside other apart)) is

  pub open-off : (other : List ℕ) → IsOpen new other → IsOpen old other
  open-off other is = by (bytes_eq name other) refl
    where
      none : (d : Document) → option_map (λ (x : Document). x.text.items) (Some d) ≡ None → ⊥
      none d h = absurd (cc)

      some : (found now : Option Document) → lookup (bytes_eq name) old.documents.entries ≡ found → IsSome now → option_map (λ (d : Document). d.text.items) now ≡ option_map f (option_map (λ (d : Document). d.text.items) found)
          → IsSome found
      some (Some d) now at there h = refl
      some None (Some d) at there h = absurd (none d h)
      some None None at there h = absurd (true≢false (sym there))

      by : (b : Bool) → bytes_eq name other ≡ b → IsOpen old other
      by true alike =
          let same = (bytes_decides name other).0 alike in
          subst (λ (n : List ℕ). IsOpen old n) same
          (some (lookup (bytes_eq name) old.documents.entries) (lookup (bytes_eq name) new.documents.entries) refl (subst (λ (n : List ℕ). IsOpen new n) (sym same) is) text)
      by false apart = subst (λ (o : Option Document). IsSome o) (beside other apart) is

-- ---- a text that is put off

module _ (told : List ℕ → Holding) (name : List ℕ) (f : List ℕ → List ℕ) (old new : Server) (stays : StaysButText name old.workspace new.workspace)
    (text : texts_of new.workspace.documents.entries name ≡ option_map f (texts_of old.workspace.documents.entries name)) where
  abbrev w : Workspace
  w = old.workspace

  abbrev v : Workspace
  v = new.workspace

  on : (other : List ℕ) → IsOpen w other → IsOpen v other
  on other is = open-on name f w v stays.documents text other is

  off : (other : List ℕ) → IsOpen v other → IsOpen w other
  off other is = open-off name f w v stays.documents text other is

  filed : (t : List ℕ → Holding) → (IsFiled t w name → IsFiled t v name) → AreFiled t w → AreFiled t v
  filed t here are = λ other. by other (bytes_eq name other) refl
    where
      by : (other : List ℕ) (b : Bool) → bytes_eq name other ≡ b → IsFiled t v other
      by other true alike = subst (λ (n : List ℕ). IsFiled t v n) ((bytes_decides name other).0 alike) (here (are name))
      by other false apart = filed-alike t other w v (record {
        document = stays.documents other apart;
        file = λ i. finite.get (stays.session i).project.inputs.files other;
        tried = λ i. list_any (bytes_eq other) (stays.tried i).keys;
        unread = λ i. list_any (bytes_eq other) (stays.unread i).keys;
      }) (are other)

  still-tried : (other : List ℕ) → IsTried w other → IsTried v other
  still-tried other (inl there) = inl ((λ i. list_any (bytes_eq other) (stays.tried i).keys) ∙ there)
  still-tried other (inr there) = inr (on other there)

  tried : AreTried w → AreTried v
  tried are =
      subst (λ (s : State). All (λ root. All (IsTried v) (compiled_root s.project.inputs root).absent) s.project.roots) (sym stays.session)
      (All-weaker (λ root. All (IsTried w) (compiled_root w.session.project.inputs root).absent) (λ root. All (IsTried v) (compiled_root w.session.project.inputs root).absent)
      (λ root. All-weaker (IsTried w) (IsTried v) still-tried (compiled_root w.session.project.inputs root).absent) w.session.project.roots are)

  rooted : AreRooted w → AreRooted v
  rooted are = λ other root. on other (are other ((λ i. list_any (bytes_eq other) (sym stays.session i).project.roots) ∙ root))

  covered : AreCovered w → AreCovered v
  covered are = λ other opened there.
      subst (λ (s : State). IsCompiled s.project other ⊎ IsFull s.project) (sym stays.session) (are other (off other opened) (subst (λ (s : State). IsThere s.project other) stays.session there))

  pub put-off-settled : ((t : List ℕ → Holding) → IsFiled t w name → IsFiled t v name) → (new.phase ≡ Waiting → ⊥) → IsSettled told old → IsSettled told new
  put-off-settled here runs is = record {
    filed = subst (λ (t : List ℕ → Holding). AreFiled t v) (λ i. told_by (sym stays.folders i) told) (filed (told_by w.folders told) (here (told_by w.folders told)) is.filed);
    tried = tried is.tried;
    rooted = rooted is.rooted;
    covered = covered is.covered;
    blank = λ waiting. absurd (runs waiting);
  }

-- the same where memory may lack
pub late-settled : {T E : Type 0} (result : Result T E) (told : List ℕ → Holding) (name : List ℕ) (f : List ℕ → List ℕ) (old new : Server) → StaysButText name old.workspace new.workspace
    → OnOk result (texts_of new.workspace.documents.entries name ≡ option_map f (texts_of old.workspace.documents.entries name))
    → ((t : List ℕ → Holding) → IsFiled t old.workspace name → OnOk result (IsFiled t new.workspace name)) → (new.phase ≡ Waiting → ⊥) → IsSettled told old → OnOk result (IsSettled told new)
late-settled (Ok x) told name f old new stays text filed runs is = put-off-settled told name f old new stays text filed runs is
late-settled (Err e) told name f old new stays text filed runs is = tt

-- ---- texts that are put

-- one is that of an open document, or nothing was done
pub put-filed : (told : List ℕ → Holding) (name : List ℕ) (old new : Workspace) → StaysBeside name old new
    → (IsSome (lookup (bytes_eq name) old.documents.entries) → (t : List ℕ → Holding) → IsFiled t new name) → (lookup (bytes_eq name) old.documents.entries ≡ None → new ≡ old) → AreFiled told old → AreFiled told new
put-filed told name old new beside opened absent are = by (lookup (bytes_eq name) old.documents.entries) refl
  where
    by : (found : Option Document) → lookup (bytes_eq name) old.documents.entries ≡ found → AreFiled told new
    by (Some d) at = all-beside told name old new beside (opened (ap (λ (o : Option Document). is_some o) at) told) are
    by None at = subst (λ (x : Workspace). AreFiled told x) (sym (absent at)) are

same-text : (o : Option (List ℕ)) → option_map (λ (t : List ℕ). t) o ≡ o
same-text None = refl
same-text (Some t) = refl

-- one after another
pub puts-on : (names : List (List ℕ)) (name : List ℕ) (old mid new : Workspace) → ArePut names old mid → IsPut name mid new → ArePut (names ++ name ∷ []) old new
puts-on [] name old mid new same one = (new, subst (λ (w : Workspace). IsPut name w new) same one, refl)
puts-on (x ∷ names) name old mid new are one = (are.0, are.1, puts-on names name are.0 mid new are.2 one)

pub puts-more : (names : List (List ℕ)) (i : ℕ) (name : List ℕ) (old mid new : Workspace) → i < length names → name ≡ get_or names i name → ArePut (take i names) old mid → IsPut name mid new → ArePut (take (i + 1) names) old new
puts-more names i name old mid new within is are one =
    subst (λ (ns : List (List ℕ)). ArePut ns old new) (sym (take_more names i name within ∙ ap (λ (n : List ℕ). take i names ++ n ∷ []) (sym is)))
    (puts-on (take i names) name old mid new are one)

pub puts-set : (names : List (List ℕ)) (old new : Workspace) → ArePut names old new → StaysSet old new
puts-set [] old new same = subst (λ (w : Workspace). StaysSet old w) (sym same) (set-same old)
puts-set (x ∷ names) old new are = set-both old are.0 new are.1.set (puts-set names are.0 new are.2)

-- a root was an open document
pub put-rooted : (name : List ℕ) (old new : Workspace) → StaysBeside name old new → texts_of new.documents.entries name ≡ texts_of old.documents.entries name → AreRooted old → AreRooted new
put-rooted name old new beside text are =
    rooted-changed name (λ (t : List ℕ). t) old new beside.roots beside.documents (text ∙ sym (same-text (texts_of old.documents.entries name))) are

-- ---- the session catches up

-- a server that doesn't run has none that is late
none-in : (phase : Phase) (late : List (List ℕ)) → (phase ≡ Running → ⊥) → late_by phase late ≡ []
none-in Running late never = absurd (never refl)
none-in Waiting late never = refl
none-in ShutDown late never = refl

pub caught-none : (old new : Server) → new.workspace ≡ old.workspace → new.phase ≡ old.phase → new.late.keys ≡ [] → (old.phase ≡ Running → ⊥) → HasCaughtUp old new
caught-none old new same phase none never = record {
  put = old.workspace;
  puts = subst (λ (names : List (List ℕ)). ArePut names old.workspace old.workspace) (sym (none-in old.phase old.late.keys never)) refl;
  documents = λ i. (same i).documents;
  set = subst (λ (w : Workspace). StaysSet old.workspace w) (sym same) (set-same old.workspace);
  phase = phase;
  none = none;
}

-- the texts of those that are late were put, and then what roots ask for was loaded
module _ (told : List ℕ → Holding) (old : Server) (put w : Workspace) (before : StaysSet old.workspace put) (set : StaysSet put w) where
  same : told_by put.folders told ≡ told_by old.workspace.folders told
  same = λ i. told_by (before.folders i) told

  pub caught-settled : AreFiled (told_by old.workspace.folders told) put → (AreFiled (told_by put.folders told) put → AreFiled (told_by put.folders told) w) → AreTried w → AreRooted w → AreCovered w → (old.phase ≡ Waiting → ⊥)
      → IsSettled told (record old { workspace = w })
  caught-settled are filed tried rooted covered runs =
      told-settled told old w (set-both old.workspace put w before set) (subst (λ (t : List ℕ → Holding). AreFiled t w) same (filed (subst (λ (t : List ℕ → Holding). AreFiled t put) (sym same) are))) tried rooted covered runs

-- they are those of a server that runs
pub late-run : (server : Server) → server.phase ≡ Running → server.late.keys ≡ late_in server
late-run server runs = λ i. late_by (sym runs i) server.late.keys

-- ---- what a step comes to

-- what a change tells
pub change-told : (server : Server) (body : List ℕ) (json params : Data) → json_of body ≡ Some json → IsChange json params → server.phase ≡ Running
    → told_to server body ≡ told_by_notice server.workspace.folders DidChange params
change-told server body json params some is runs =
    told-json server body json some ∙ ap (λ (phase : Phase). if_running phase (told_by_message server.workspace.folders json)) runs
    ∙ told-notice server.workspace.folders json DidChange (Some params) is.0 is.1 is.2

-- nothing is taken in of a body that is no JSON
pub takes-nothing : (old new : Server) (body : List ℕ) (before between after : List Data) → json_of body ≡ None → between ≡ before ++ error_json null NoJson ∷ [] → CatchesUp old new
    → ArePublishedOnTime new between after → TakesIn body old new before after
takes-nothing old new body before between after none is caught later =
    takes-before old old new body before between after (unread-asks body old none) (taken-same (told_to old body) old (told-nothing old body none)) caught
    (inr (λ w. one-published w before between (error_json null NoJson) is (error-published w null NoJson))) later

-- what is taken in behind the text before
pub takes-on : {T E : Type 0} (result : Result T E) (told : Option Told) (old mid new : Server) (body : List ℕ) (before between after : List Data) → told_to mid body ≡ told → CatchesUp old mid → mid.late.keys ≡ []
    → new.late ≡ mid.late → ArePublished mid.workspace before between → OnOk result (HasTaken told mid new) → OnOk result (ArePublished new.workspace between after) → OnOk result (TakesIn body old new before after)
takes-on result told old mid new body before between after is caught none late early taken later =
    on_ok_both result
    (λ (has : HasTaken told mid new) (more : ArePublished new.workspace between after).
    takes-then old mid new body before between after caught (λ json id some asks. none) (subst (λ (t : Option Told). HasTaken t mid new) (sym is ∙ told-caught old mid body caught) has) (inl (none, early)) (inl ((λ i. (late i).keys) ∙ none, more))) taken later

-- who is answered by a change
pub change-answered : (body : List ℕ) (json : Data) (params : Bor Value) (old new : Phase) (before after : List Data) → json_of body ≡ Some json → IsChange json (view params.now) → old ≡ Running → new ≡ old
    → answered after ≡ answered before → (message : Message) × IsMessageOf body message × IsAnswered message old new before after Goes
change-answered body json params old new before after some is runs led same = (
  Notice DidChange (Some params),
  message-some body json (Notice DidChange (Some params)) some is,
  record { answers = same ∙ sym (append-nil (answered before)); led = led; ends = sym (ap (λ (phase : Phase). outcome_by phase DidChange) runs) },
)

-- and by a body that is no JSON
pub unread-answered : (body : List ℕ) (old new : Phase) (before between after : List Data) → json_of body ≡ None → between ≡ before ++ error_json null NoJson ∷ [] → new ≡ old → answered after ≡ answered between
    → (message : Message) × IsMessageOf body message × IsAnswered message old new before after Goes
unread-answered body old new before between after none is led same =
    (Invalid, message-none body none, record { answers = same ∙ answered-null before between null NoJson refl is; led = led; ends = refl })

-- the session caught up before
pub answered-on : (message : Message) (old mid new : Phase) (before between after : List Data) (outcome : StepOutcome) → mid ≡ old → answered between ≡ answered before → IsAnswered message mid new between after outcome
    → IsAnswered message old new before after outcome
answered-on message old mid new before between after outcome same said is =
    let at = subst (λ (phase : Phase). IsAnswered message phase new between after outcome) same is in
    record { answers = at.answers ∙ ap (λ (ids : List Data). ids ++ asked_by message) said; led = at.led; ends = at.ends }

-- ---- what a text that is put off takes in

-- a change of this document
pub changed-told : (folders : List FolderNamed) (params : Data) (name : List ℕ) (changes : List TextChange) → name_in folders params ≡ Some name → changes_told params ≡ Some changes
    → told_by_notice folders DidChange params ≡ Some (Changed name changes)
changed-told folders params name changes named told = λ i. both Changed (named i) (told i)

pub taken-late : (told : Option Told) (name : List ℕ) (changes : List TextChange) (old new : Server) → ((other : List ℕ) → IsLate old other → IsLate new other) → told ≡ Some (Changed name changes) → StaysButText name old.workspace new.workspace
    → texts_of new.workspace.documents.entries name ≡ option_map (λ text. text_after_all old.workspace.encoding text changes) (texts_of old.workspace.documents.entries name) → IsLate new name → HasTaken told old new
taken-late told name changes old new still is stays text late =
    subst (λ (t : Option Told). HasTaken t old new) (sym is) (record {
      texts = texts-with name _ old.workspace.documents.entries new.workspace.documents.entries stays.documents text;
      held = late-beside old new name stays.documents late still;
      set = λ runs. record {
        encoding = stays.encoding;
        folders = stays.folders;
        macros = λ i. (stays.session i).project.inputs.macros;
        search = λ i. (stays.session i).project.inputs.search;
      };
    })

-- one that makes no sense
pub taken-bad : (folders : List FolderNamed) (params : Data) (old new : Server) → ((name : List ℕ) → IsLate old name → IsLate new name) → changes_told params ≡ None → IsKept old.workspace new.workspace → HasTaken (told_by_notice folders DidChange params) old new
taken-bad folders params old new late none kept =
    let nothing : told_by_notice folders DidChange params ≡ None = ap (both Changed (name_in folders params)) none ∙ both-lost Changed (name_in folders params) in
    subst (λ (t : Option Told). HasTaken t old new) (sym nothing) (taken-kept old new late kept)
