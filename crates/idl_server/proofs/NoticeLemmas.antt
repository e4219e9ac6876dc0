-- What a server takes in.
use Rattle.std.proofs.Common.{◌≡◌, ◌∙◌, ℕ, Bool, true, false, List, Option, None, Some, if◌then◌else◌, is_some, option_and_then, refl, rules, sym, ap, subst, true≢false}
use Rattle.std.proofs.lemmas.Str.{IsUtf8-from_is_utf8, is_utf8-from_IsUtf8}
use Rattle.std.specs.Borrow.{Bor}
use Rattle.std.specs.Cmp.Lexicographic.{bytes_decides}
use Rattle.std.specs.Option.{option_map, unwrap_or}
use Rattle.std.specs.List.{list_any}
use Rattle.std.specs.Str.{IsUtf8, bytes_eq, is_utf8}
use Rattle.serde_json.specs.Data.{Data, null}
use Rattle.serde_json.specs.Read.{read}
use Rattle.serde_json.specs.View.{view}
use Rattle.serde_json.specs.declared.value.Value.{Value, Null, the_lemmas}
use Rattle.idl_editor.specs.messages.Message.{id_in, method_in, params_in, seen}
use Rattle.idl_editor.specs.declared.messages.method.Method.{Method}
use Rattle.idl_editor.specs.declared.column.Encoding.{Encoding}
use Rattle.idl_editor.specs.documents.Documents.{AreSameBeside, HaveTexts, Told, open_after_told, texts_of, with_text}
use Rattle.idl_editor.specs.messages.Params.{both}
use Rattle.idl_server.specs.Files.{IsKept}
use Rattle.idl_editor.specs.documents.Notices.{json_of, told_by_message, told_by_notice}
use Rattle.idl_server.specs.Server.{HasTaken, IsLate, OnlySets, if_running, late_by, told_to}
use Rattle.idl_editor.specs.declared.documents.document.Document.{Document}
use Rattle.idl_server.specs.declared.server.Phase.{Phase}
use Rattle.idl_server.specs.declared.server.Phase.TheVariants.{Running, ShutDown, Waiting}
use Rattle.idl_server.specs.declared.server.Server.{Server}
use Rattle.idl_editor.specs.uris.Folders.{FolderNamed}
use Rattle.idl_server.proofs.HeldLemmas.{held-late, held-same, late-after}
use Rattle.idl_server.proofs.WorkspaceLemmas.{set-both, set-kept}

-- one document's text is this one, and the others' are as they were
pub texts-with : (name : List ℕ) (text : Option (List ℕ)) (old new : List (List ℕ × Document)) → AreSameBeside name old new → texts_of new name ≡ text → HaveTexts new (with_text (texts_of old) name text)
texts-with name text old new beside here = λ other. by other (bytes_eq name other) refl
  where
    by : (other : List ℕ) (b : Bool) → bytes_eq name other ≡ b → texts_of new other ≡ (if b then text else texts_of old other)
    by other true alike = subst (λ (n : List ℕ). texts_of new n ≡ text) ((bytes_decides name other).0 alike) here
    by other false apart = λ i. option_map (λ document. document.text.items) (beside other apart i)

-- nothing is told where one of two isn't there
pub both-lost : {A B C : Type 0} (f : A → B → C) (a : Option A) → both f a None ≡ None
both-lost f None = refl
both-lost f (Some a) = refl

-- documents that are the same have their texts where nothing is told
pub texts-kept : (encoding : Encoding) (told : Option Told) (old new : List (List ℕ × Document)) → new ≡ old → told ≡ None → HaveTexts new (open_after_told encoding (texts_of old) told)
texts-kept encoding told old new same none =
    subst (λ (t : Option Told). HaveTexts new (open_after_told encoding (texts_of old) t)) (sym none) (λ name i. texts_of (same i) name)

-- ---- what bytes are

pub json-none : (body : List ℕ) → (IsUtf8 body → read body ≡ None) → json_of body ≡ None
json-none body none = by (is_utf8 body) refl
  where
    by : (b : Bool) → is_utf8 body ≡ b → (if b then read body else None) ≡ None
    by true is = none (IsUtf8-from_is_utf8 body is)
    by false is = refl

pub json-some : (body : List ℕ) (json : Data) → IsUtf8 body → read body ≡ Some json → json_of body ≡ Some json
json-some body json is some = ap (λ (b : Bool). if b then read body else None) (is_utf8-from_IsUtf8 body is) ∙ some

-- ---- what a message tells

pub none-running : (phase : Phase) → if_running phase None ≡ None
none-running Running = refl
none-running Waiting = refl
none-running ShutDown = refl

pub told-nothing : (server : Server) (body : List ℕ) → json_of body ≡ None → told_to server body ≡ None
told-nothing server body none =
    ap (λ (json : Option Data). if_running server.phase (option_and_then (told_by_message server.workspace.folders) json)) none ∙ none-running server.phase

pub told-json : (server : Server) (body : List ℕ) (json : Data) → json_of body ≡ Some json → told_to server body ≡ if_running server.phase (told_by_message server.workspace.folders json)
told-json server body json some = ap (λ (j : Option Data). if_running server.phase (option_and_then (told_by_message server.workspace.folders) j)) some

-- a request tells nothing of documents
pub told-request : (folders : List FolderNamed) (json id : Data) → id_in json ≡ Some id → told_by_message folders json ≡ None
told-request folders json id there =
    ap (λ (i : Option Data). if is_some i then None else option_and_then (λ method. told_by_notice folders method (unwrap_or (params_in json) null)) (method_in json)) there

-- a notice tells what its method and its parameters do
pub told-notice : (folders : List FolderNamed) (json : Data) (method : Method) (params : Option Data) → id_in json ≡ None → method_in json ≡ Some method → params_in json ≡ params
    → told_by_message folders json ≡ told_by_notice folders method (unwrap_or params null)
told-notice folders json method params none names has =
    λ i. if is_some (none i) then None else option_and_then (λ m. told_by_notice folders m (unwrap_or (has i) null)) (names i)

pub view-Null : view Null ≡ null
view-Null = search (rules, the_lemmas)

pub params-given : (params : Option (Bor Value)) (nothing given : Bor Value) → given ≡ unwrap_or params nothing → view nothing.now ≡ null → view given.now ≡ unwrap_or (seen params) null
params-given params nothing given is seen-null = ap (λ (b : Bor Value). view b.now) is ∙ by params
  where
    by : (p : Option (Bor Value)) → view (unwrap_or p nothing).now ≡ unwrap_or (seen p) null
    by None = seen-null
    by (Some p) = refl

-- ---- a server

-- nothing was taken in
pub taken-kept : (old new : Server) → ((name : List ℕ) → IsLate old name → IsLate new name) → IsKept old.workspace new.workspace → HasTaken None old new
taken-kept old new late kept = record {
  texts = λ name i. texts_of (kept.documents i).entries name;
  held = held-late old new late (held-same old.workspace.session.project _ _ (λ i. (kept.documents i).entries));
  set = λ runs. set-kept old.workspace new.workspace kept;
}

pub taken-same : (told : Option Told) (server : Server) → told ≡ None → HasTaken told server server
taken-same told server none =
    subst (λ (t : Option Told). HasTaken t server server) (sym none)
    (taken-kept server server (λ name is. is) (record { encoding = refl; folders = refl; session = refl; documents = refl; tried = refl; unread = refl }))

-- an editor set what it sets when the server begins
pub taken-set : (old new : Server) → OnlySets old.workspace new.workspace → old.phase ≡ Waiting → HasTaken None old new
taken-set old new sets waiting = record {
  texts = λ name i. texts_of (sets.documents i).entries name;
  held = held-late old new (λ name was. absurd (true≢false (sym was ∙ (λ i. list_any (bytes_eq name) (late_by (waiting i) old.late.keys))))) (held-same old.workspace.session.project _ _ (λ i. (sets.documents i).entries));
  set = λ runs. absurd (apart (sym waiting ∙ runs));
}
  where
    apart : Waiting ≡ Running → ⊥
    apart h = absurd (cc)

-- what is shown of it changes nothing
pub taken-before : (told : Option Told) (old mid new : Server) → new.phase ≡ mid.phase → new.late ≡ mid.late → IsKept mid.workspace new.workspace → HasTaken told old mid → HasTaken told old new
taken-before told old mid new phase late kept has = record {
  texts = λ name. (λ i. texts_of (kept.documents i).entries name) ∙ has.texts name;
  held = late-after old mid new phase late (λ i. (kept.documents i).entries) has.held;
  set = λ runs. set-both old.workspace mid.workspace new.workspace (has.set runs) (set-kept mid.workspace new.workspace kept);
}
