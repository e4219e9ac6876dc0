-- Documents whose text the session hasn't, since it refused it.
use Rattle.std.proofs.Common.{◌≡◌, ◌⊎◌, ◌∙◌, ℕ, Bool, true, false, cond, List, [], Option, None, Some, inl, inr, refl, sym, ap, subst, true≢false}
use Rattle.std.specs.Cmp.Lexicographic.{bytes_decides}
use Rattle.std.specs.List.{list_any}
use Rattle.std.specs.Map.{lookup}
use Rattle.std.specs.Option.{option_map}
use Rattle.std.specs.Str.{bytes_eq}
use Rattle.idl_inputs.specs.Project.{Project}
use Rattle.idl_editor.specs.documents.Documents.{AreSameBeside, texts_of}
use Rattle.idl_server.specs.Documents.{OnlyRefusedAreBehind, OnlyRefusedIsBehind}
use Rattle.idl_server.specs.Files.{IsWith}
use Rattle.idl_server.specs.Server.{IsLate, OnlyLateIsBehind, late_by}
use Rattle.idl_server.specs.declared.server.Phase.{Phase}
use Rattle.idl_server.specs.declared.server.Phase.TheVariants.{Running, ShutDown, Waiting}
use Rattle.idl_server.specs.declared.server.Server.{Server}
use Rattle.idl_editor.specs.declared.documents.document.Document.{Document}

pub held-same : (project : Project) (old new : List (List ℕ × Document)) → new ≡ old → OnlyRefusedAreBehind project old new
held-same project old new same = λ name. inl (λ i. lookup (bytes_eq name) (same i))

-- one document, and all beside it
pub held-beside : (project : Project) (name : List ℕ) (old new : List (List ℕ × Document)) → AreSameBeside name old new → OnlyRefusedIsBehind project name new → OnlyRefusedAreBehind project old new
held-beside project name old new beside here = λ other. by other (bytes_eq name other) refl
  where
    by : (other : List ℕ) (b : Bool) → bytes_eq name other ≡ b → (lookup (bytes_eq other) new ≡ lookup (bytes_eq other) old) ⊎ OnlyRefusedIsBehind project other new
    by other true alike = inr (subst (λ (n : List ℕ). OnlyRefusedIsBehind project n new) ((bytes_decides name other).0 alike) here)
    by other false apart = inl (beside other apart)

-- the same documents before, or after
pub held-after : (project : Project) (old mid new : List (List ℕ × Document)) → new ≡ mid → OnlyRefusedAreBehind project old mid → OnlyRefusedAreBehind project old new
held-after project old mid new same held = subst (λ (documents : List (List ℕ × Document)). OnlyRefusedAreBehind project old documents) (sym same) held

-- one that has no text isn't open
pub held-closed : (project : Project) (name : List ℕ) (documents : List (List ℕ × Document)) → texts_of documents name ≡ None → OnlyRefusedIsBehind project name documents
held-closed project name documents none = λ document there behind.
    absurd (gone document.text.items (sym none ∙ ap (λ (o : Option Document). option_map (λ d. d.text.items) o) there))
  where
    gone : (text : List ℕ) → ◌≡◌ {A = Option (List ℕ)} None (Some text) → ⊥
    gone text h = absurd (cc)

-- where what was late is so still
pub held-late : (old new : Server) → ((name : List ℕ) → IsLate old name → IsLate new name) → OnlyRefusedAreBehind old.workspace.session.project old.workspace.documents.entries new.workspace.documents.entries
    → (name : List ℕ) → OnlyLateIsBehind old new name
held-late old new late held = λ name. by name (held name)
  where
    by : (name : List ℕ)
        → (lookup (bytes_eq name) new.workspace.documents.entries ≡ lookup (bytes_eq name) old.workspace.documents.entries) ⊎ OnlyRefusedIsBehind old.workspace.session.project name new.workspace.documents.entries
        → OnlyLateIsBehind old new name
    by name (inl same) = inl (same, late name)
    by name (inr refused) = inr (inr refused)

-- ---- which documents are late

-- this one is, where a server runs
pub late-there : (server : Server) (name : List ℕ) → server.phase ≡ Running → list_any (bytes_eq name) server.late.keys ≡ true → IsLate server name
late-there server name runs there = (λ i. list_any (bytes_eq name) (late_by (runs i) server.late.keys)) ∙ there

late-none : (phase : Phase) → late_by phase [] ≡ []
late-none Running = refl
late-none Waiting = refl
late-none ShutDown = refl

-- none was
pub none-late : (old new : Server) → old.late.keys ≡ [] → (name : List ℕ) → IsLate old name → IsLate new name
none-late old new none name was =
    absurd (true≢false (sym was ∙ (λ i. list_any (bytes_eq name) (late_by old.phase (none i))) ∙ ap (list_any (bytes_eq name)) (late-none old.phase)))

-- one more is
module _ (name : List ℕ) (old new : Server) (was : old.phase ≡ Running) (runs : new.phase ≡ Running) (one : IsWith name true old.late.keys new.late.keys) where
  pub late-more : IsLate new name
  late-more =
      late-there new name runs
      (one name ∙ ap (λ (b : Bool). cond b true (list_any (bytes_eq name) old.late.keys)) ((bytes_decides name name).1 refl))

  pub late-still : (other : List ℕ) → IsLate old other → IsLate new other
  late-still other is = late-there new other runs (one other ∙ by (bytes_eq name other))
    where
      before : list_any (bytes_eq other) old.late.keys ≡ true
      before = (λ i. list_any (bytes_eq other) (late_by (sym was i) old.late.keys)) ∙ is

      by : (b : Bool) → cond b true (list_any (bytes_eq other) old.late.keys) ≡ true
      by true = refl
      by false = before

-- ---- documents of which some are late

-- one that is, and all beside it
pub late-beside : (old new : Server) (name : List ℕ) → AreSameBeside name old.workspace.documents.entries new.workspace.documents.entries → IsLate new name → ((other : List ℕ) → IsLate old other → IsLate new other)
    → (other : List ℕ) → OnlyLateIsBehind old new other
late-beside old new name beside is still = λ other. by other (bytes_eq name other) refl
  where
    by : (other : List ℕ) (b : Bool) → bytes_eq name other ≡ b → OnlyLateIsBehind old new other
    by other true alike = inr (inl (subst (λ (n : List ℕ). IsLate new n) ((bytes_decides name other).0 alike) is))
    by other false apart = inl (beside other apart, still other)

-- the same documents after it, and the same ones late
pub late-after : (old mid new : Server) → new.phase ≡ mid.phase → new.late ≡ mid.late → new.workspace.documents.entries ≡ mid.workspace.documents.entries → ((name : List ℕ) → OnlyLateIsBehind old mid name)
    → (name : List ℕ) → OnlyLateIsBehind old new name
late-after old mid new phase late documents held = λ name. by name (held name)
  where
    still : (name : List ℕ) → IsLate mid name → IsLate new name
    still name is = (λ i. list_any (bytes_eq name) (late_by (phase i) (late i).keys)) ∙ is

    by : (name : List ℕ) → OnlyLateIsBehind old mid name → OnlyLateIsBehind old new name
    by name (inl same) = inl ((λ i. lookup (bytes_eq name) (documents i)) ∙ same.0, λ was. still name (same.1 was))
    by name (inr (inl is)) = inr (inl (still name is))
    by name (inr (inr refused)) = inr (inr (subst (λ (entries : List (List ℕ × Document)). OnlyRefusedIsBehind old.workspace.session.project name entries) (sym documents) refused))
