-- What is told of what is found.
use Rattle.std.proofs.Common.{◌≡◌, ◌∙◌, ◌++◌, ◌∷◌, [], ℕ, List, None, Option, Result, Some, Ok, Err, ap, arith, length, refl, subst, sym}
use Rattle.std.proofs.lemmas.List.{append_assoc, append-nil}
use Rattle.std.proofs.lemmas.List.Elements.{All-append, All-cons, All-nil}
use Rattle.std.specs.Prelude.{codes}
use Rattle.std.specs.Result.{OnOk}
use Rattle.serde_json.specs.Data.{Data}
use Rattle.idl_editor.specs.messages.Answers.{answer_json, error_json, notice_json}
use Rattle.idl_editor.specs.declared.messages.answer.ErrorCode.{ErrorCode}
use Rattle.idl_server.specs.Diagnostics.{AreDiagnostics}
use Rattle.idl_server.specs.Uris.{uri_for, version_for}
use Rattle.idl_server.specs.declared.workspace.Workspace.{Workspace}
use Rattle.idl_editor.specs.told.Published.{found_json, published_json, version_members}
use Rattle.idl_server.specs.Published.{ArePublished, IsPublished}

-- ---- one message

list-same : (uri other : List ℕ) (version next : Option ℕ) (list more : Data) → published_json uri version list ≡ published_json other next more → list ≡ more
list-same uri other version next list more is = cc

uri-same : (uri other : List ℕ) (version next : Option ℕ) (list more : Data) → published_json uri version list ≡ published_json other next more → uri ≡ other
uri-same uri other version next list more is = cc

members-same : (uri other : List ℕ) (version next : Option ℕ) (list more : Data) → published_json uri version list ≡ published_json other next more → version_members version ≡ version_members next
members-same uri other version next list more is = cc

version-same : (version next : Option ℕ) → version_members version ≡ version_members next → version ≡ next
version-same None None is = refl
version-same None (Some n) is = absurd (cc)
version-same (Some m) None is = absurd (cc)
version-same (Some m) (Some n) is = let same : m ≡ n = cc in ap (λ (v : ℕ). Some v) same

pub found-published : (w : Workspace) (name uri : List ℕ) (version : Option ℕ) (list params : Data) → params ≡ found_json uri version list → uri ≡ uri_for w name → version ≡ version_for w name
    → AreDiagnostics w.encoding w.session.project name list → IsPublished w (notice_json (codes "textDocument/publishDiagnostics") params)
found-published w name uri version list params made named of are = λ other next more is.
    let same : published_json uri version list ≡ published_json other next more = ap (notice_json (codes "textDocument/publishDiagnostics")) (sym made) ∙ is in (
      name,
      sym (uri-same uri other version next list more same) ∙ named,
      sym (version-same version next (members-same uri other version next list more same)) ∙ of,
      subst (λ (l : Data). AreDiagnostics w.encoding w.session.project name l) (list-same uri other version next list more same) are,
    )

method-same : (a b : List ℕ) (params more : Data) → notice_json a params ≡ notice_json b more → a ≡ b
method-same a b params more is = cc

-- another notice
pub shown-published : (w : Workspace) (params : Data) → IsPublished w (notice_json (codes "window/showMessage") params)
shown-published w params = λ uri version list is.
    let lengths : ◌≡◌ {A = ℕ} 18 31 = ap length (method-same (codes "window/showMessage") (codes "textDocument/publishDiagnostics") params (found_json uri version list) is) in
    absurd (omega (arith, lengths))

-- answers
pub answer-published : (w : Workspace) (id outcome : Data) → IsPublished w (answer_json id outcome)
answer-published w id outcome = λ uri version list is.
    let keys : codes "id" ≡ codes "jsonrpc" = cc in
    let lengths : ◌≡◌ {A = ℕ} 2 7 = ap length keys in
    absurd (omega (arith, lengths))

pub error-published : (w : Workspace) (id : Data) (code : ErrorCode) → IsPublished w (error_json id code)
error-published w id code = λ uri version list is.
    let keys : codes "error" ≡ codes "jsonrpc" = cc in
    let lengths : ◌≡◌ {A = ℕ} 5 7 = ap length keys in
    absurd (omega (arith, lengths))

-- ---- messages

pub none-published : (w : Workspace) (said : List Data) → ArePublished w said said
none-published w said = ([], sym (append-nil said), All-nil (IsPublished w))

pub one-published : (w : Workspace) (old new : List Data) (message : Data) → new ≡ old ++ message ∷ [] → IsPublished w message
    → ArePublished w old new
one-published w old new message is one =
    (message ∷ [], is, All-cons (IsPublished w) message [] one (All-nil (IsPublished w)))

pub both-published : (w : Workspace) (a b c : List Data) → ArePublished w a b → ArePublished w b c → ArePublished w a c
both-published w a b c first second = (
  first.0 ++ second.0,
  second.1 ∙ ap (λ (said : List Data). said ++ second.0) first.1 ∙ append_assoc a first.0 second.0,
  All-append (IsPublished w) first.0 second.0 first.2 second.2,
)

-- what is said last
pub said-published : {T E : Type 0} (result : Result T E) (w : Workspace) (old new : List Data) (message : Data) → IsPublished w message
    → OnOk result (new ≡ old ++ message ∷ []) → OnOk result (ArePublished w old new)
said-published (Ok x) w old new message one is = one-published w old new message is one
said-published (Err e) w old new message one is = tt

pub then-published : {T E : Type 0} (result : Result T E) (w : Workspace) (a b c : List Data) → ArePublished w a b
    → OnOk result (ArePublished w b c) → OnOk result (ArePublished w a c)
then-published (Ok x) w a b c first second = both-published w a b c first second
then-published (Err e) w a b c first second = tt
