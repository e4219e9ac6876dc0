-- What holds of a server between messages.
use Rattle.std.proofs.Common.{◌≡◌, ◌∙◌, ℕ, All, List, Option, None, Some, is_some, refl, sym, subst, true≢false}
use Rattle.std.proofs.lemmas.List.Elements.{All-nil}
use Rattle.std.specs.FinMap as finite
use Rattle.std.specs.List.{list_any}
use Rattle.std.specs.Map.{lookup}
use Rattle.std.specs.Str.{bytes_eq}
use Rattle.idl_project.specs.idl_sources.Compile.{compiled_root}
use Rattle.idl_project.specs.Edited.{IsAccepted}
use Rattle.idl_inputs.specs.Edits.{Define, Search}
use Rattle.idl_project.specs.UpToDate.{State}
use Rattle.idl_project.specs.declared.work.Work.{Work}
use Rattle.idl_loader.specs.Holding.{Holding}
use Rattle.idl_server.specs.Files.{AreFiled, AreTried, AreTriedBy, IsKept, IsTried, StaysSet, told_by}
use Rattle.idl_server.specs.Roots.{AreCovered, AreRooted}
use Rattle.idl_server.specs.Server.{IsBlank, IsSettled, OnlySets}
use Rattle.idl_editor.specs.declared.documents.document.Document.{Document}
use Rattle.idl_server.specs.declared.server.Phase.TheVariants.{Waiting}
use Rattle.idl_server.specs.declared.server.Server.{Server}
use Rattle.idl_server.specs.declared.workspace.Workspace.{Workspace}
use Rattle.idl_server.proofs.CoveredLemmas.{covered-kept, rooted-kept}
use Rattle.idl_server.proofs.FileLemmas.{LeavesFiles, define-leaves, search-leaves}
use Rattle.idl_server.proofs.WorkspaceLemmas.{all-kept, tried-kept}

-- ---- a workspace without documents and files

pub blank-filed : (told : List ℕ → Holding) (w : Workspace) → IsBlank w → AreFiled told w
blank-filed told w blank = λ name. record {
  opened = λ document there now. absurd (lost document (sym (λ i. lookup (bytes_eq name) (blank.documents i)) ∙ there));
  closed = λ none. record {
    loaded = λ lines there. absurd (gone lines (sym (blank.files name) ∙ there));
    missing = λ tried unread. absurd (true≢false (sym tried ∙ (λ i. list_any (bytes_eq name) (blank.tried i))));
  };
}
  where
    lost : (document : Document) → ◌≡◌ {A = Option Document} None (Some document) → ⊥
    lost document h = absurd (cc)

    gone : (lines : List (List ℕ)) → ◌≡◌ {A = Option (List (List ℕ))} None (Some lines) → ⊥
    gone lines h = absurd (cc)

pub blank-tried : (w : Workspace) → IsBlank w → AreTried w
blank-tried w blank =
    subst (λ (roots : List (List ℕ)). AreTriedBy w roots) (sym blank.roots) (All-nil (λ root. All (IsTried w) (compiled_root w.session.project.inputs root).absent))

-- a name isn't open, and no root
pub blank-rooted : (w : Workspace) → IsBlank w → AreRooted w
blank-rooted w blank = λ name root. absurd (true≢false (sym root ∙ (λ i. list_any (bytes_eq name) (blank.roots i))))

pub blank-covered : (w : Workspace) → IsBlank w → AreCovered w
blank-covered w blank = λ name opened there.
    absurd (true≢false (sym opened ∙ (λ i. is_some (lookup (bytes_eq name) (blank.documents i)))))

pub blank-kept : (old new : Workspace) → IsKept old new → IsBlank old → IsBlank new
blank-kept old new kept blank = record {
  documents = (λ i. (kept.documents i).entries) ∙ blank.documents;
  files = λ name. (λ i. finite.get (kept.session i).project.inputs.files name) ∙ blank.files name;
  roots = (λ i. (kept.session i).project.roots) ∙ blank.roots;
  tried = (λ i. (kept.tried i).keys) ∙ blank.tried;
}

-- ---- what an editor sets when the server begins

pub sets-both : (a b c : Workspace) → OnlySets a b → OnlySets b c → OnlySets a c
sets-both a b c first second = record {
  documents = second.documents ∙ first.documents;
  files = second.files ∙ first.files;
  roots = second.roots ∙ first.roots;
  tried = second.tried ∙ first.tried;
}

-- macros and directories
sets-session : (old : Workspace) (s : State) → LeavesFiles old.session.project s.project → OnlySets old (record old { session = s })
sets-session old s leaves = record { documents = refl; files = leaves.0; roots = leaves.1; tried = refl }

pub sets-macro : (word body : List ℕ) (old : Workspace) (s : State) (work : Work) → IsAccepted (Define word body) old.session s work → OnlySets old (record old { session = s })
sets-macro word body old s work accepted = sets-session old s (define-leaves word body old.session.project s.project accepted.project)

pub sets-directories : (directories : List (List ℕ)) (old : Workspace) (s : State) (work : Work) → IsAccepted (Search directories) old.session s work → OnlySets old (record old { session = s })
sets-directories directories old s work accepted = sets-session old s (search-leaves directories old.session.project s.project accepted.project)

-- what is refused
pub sets-refused : (old : Workspace) (s : State) (new : Workspace) → s ≡ old.session → IsKept (record old { session = s }) new → OnlySets old new
sets-refused old s new same kept = record {
  documents = kept.documents;
  files = (λ i. (kept.session i).project.inputs.files) ∙ (λ i. (same i).project.inputs.files);
  roots = (λ i. (kept.session i).project.roots) ∙ (λ i. (same i).project.roots);
  tried = kept.tried;
}

pub blank-set : (old new : Workspace) → OnlySets old new → IsBlank old → IsBlank new
blank-set old new sets blank = record {
  documents = (λ i. (sets.documents i).entries) ∙ blank.documents;
  files = λ name. (λ i. finite.get (sets.files i) name) ∙ blank.files name;
  roots = sets.roots ∙ blank.roots;
  tried = (λ i. (sets.tried i).keys) ∙ blank.tried;
}

-- ---- a server

pub settled-blank : (told : List ℕ → Holding) (server : Server) → IsBlank server.workspace → IsSettled told server
settled-blank told server blank = record {
  filed = blank-filed (told_by server.workspace.folders told) server.workspace blank;
  tried = blank-tried server.workspace blank;
  rooted = blank-rooted server.workspace blank;
  covered = blank-covered server.workspace blank;
  blank = λ waiting. blank;
}

-- but for what is to be told it is the same, and no earlier in its life
pub settled-kept : (told : List ℕ → Holding) (old new : Server) → (new.phase ≡ Waiting → old.phase ≡ Waiting) → IsKept old.workspace new.workspace → IsSettled told old → IsSettled told new
settled-kept told old new phase kept is = record {
  filed = subst (λ (t : List ℕ → Holding). AreFiled t new.workspace) (λ i. told_by (sym kept.folders i) told)
      (all-kept (told_by old.workspace.folders told) old.workspace new.workspace kept is.filed);
  tried = tried-kept old.workspace new.workspace kept is.tried;
  rooted = rooted-kept old.workspace new.workspace kept is.rooted;
  covered = covered-kept old.workspace new.workspace kept is.covered;
  blank = λ waiting. blank-kept old.workspace new.workspace kept (is.blank (phase waiting));
}

-- a server that runs took in what was told
pub told-settled : (told : List ℕ → Holding) (old : Server) (w : Workspace) → StaysSet old.workspace w → AreFiled (told_by old.workspace.folders told) w → AreTried w → AreRooted w → AreCovered w → (old.phase ≡ Waiting → ⊥)
    → IsSettled told (record old { workspace = w })
told-settled told old w set filed tried rooted covered runs = record {
  filed = subst (λ (t : List ℕ → Holding). AreFiled t w) (λ i. told_by (sym set.folders i) told) filed;
  tried = tried;
  rooted = rooted;
  covered = covered;
  blank = λ waiting. absurd (runs waiting);
}
