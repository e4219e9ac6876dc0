-- What holds of a workspace, through what is done in it.
use Rattle.std.proofs.Common.{◌≡◌, ◌⊎◌, ◌∙◌, ℕ, All, Bool, true, false, cond, List, Option, None, Some, Result, Ok, Err, inl, inr, refl, sym, ap, subst, true≢false}
use Rattle.std.proofs.lemmas.List.Elements.{All-weaker}
use Rattle.std.specs.Cmp.Lexicographic.{bytes_decides}
use Rattle.std.specs.FinMap as finite
use Rattle.std.specs.List.{list_any}
use Rattle.std.specs.Map.{lookup}
use Rattle.std.specs.Option.{IfSome, IsSome, option_map}
use Rattle.std.specs.Result.{OnOk}
use Rattle.std.specs.Str.{bytes_eq}
use Rattle.idl_source.specs.texts.Cut.{cut_lines}
use Rattle.idl_inputs.specs.Batch.{after_all}
use Rattle.idl_project.specs.idl_sources.Compile.{compiled_root}
use Rattle.idl_inputs.specs.Edits.{Edit, Put, Remove}
use Rattle.idl_project.specs.UpToDate.{State}
use Rattle.idl_loader.specs.Holding.{Allows, Holding, NoFile}
use Rattle.idl_loader.specs.Holding.{IsFileOf}
use Rattle.idl_editor.specs.documents.Documents.{AreSameBeside, texts_of}
use Rattle.idl_server.specs.Edited.{IsSameButFor}
use Rattle.idl_server.specs.Files.{AreFiled, AreTried, IsClosed, IsFiled, IsKept, IsTried, IsWith, StaysBeside, StaysCompiled, StaysFiled, StaysSet}
use Rattle.idl_server.specs.Loading.{IsLoadedEdit, StaysOpen}
use Rattle.idl_server.specs.Roots.{AddsNoRoot}
use Rattle.idl_editor.specs.declared.documents.document.Document.{Document}
use Rattle.idl_server.specs.declared.workspace.Workspace.{Workspace}
use Rattle.idl_server.proofs.CoveredLemmas.{adds-none}
use Rattle.idl_server.proofs.FileLemmas.{AreLoadedOver, loaded-all, lost}

-- a fact, if there is a value
pub on_ok : {T E P : Type 0} (r : Result T E) → P → OnOk r P
on_ok (Ok x) p = p
on_ok (Err e) p = tt

-- two facts of a value give a third one
pub on_ok_both : {T E A B C : Type 0} (r : Result T E) → (A → B → C) → OnOk r A → OnOk r B → OnOk r C
on_ok_both (Ok x) f a b = f a b
on_ok_both (Err e) f a b = tt

-- what holds of a value, if there is one
pub some_of : {X : Type 0} (found : Option X) (x : X) (P : X → Type 0) → found ≡ Some x → IfSome found P → P x
some_of {X} found x P is holds = subst (λ (o : Option X). IfSome o P) is holds

-- ---- what the file of a name depends on

pub record IsAlike (name : List ℕ) (old new : Workspace) : Type 0 where
  pub document : lookup (bytes_eq name) new.documents.entries ≡ lookup (bytes_eq name) old.documents.entries
  pub file : finite.get new.session.project.inputs.files name ≡ finite.get old.session.project.inputs.files name
  pub tried : list_any (bytes_eq name) new.tried.keys ≡ list_any (bytes_eq name) old.tried.keys
  pub unread : list_any (bytes_eq name) new.unread.keys ≡ list_any (bytes_eq name) old.unread.keys

pub closed-alike : (told : List ℕ → Holding) (name : List ℕ) (old new : Workspace) → IsAlike name old new → IsClosed told old name → IsClosed told new name
closed-alike told name old new same is = record {
  loaded = λ lines there. is.loaded lines (sym same.file ∙ there);
  missing = λ tried unread. is.missing (sym same.tried ∙ tried) (sym same.unread ∙ unread);
}

pub filed-alike : (told : List ℕ → Holding) (name : List ℕ) (old new : Workspace) → IsAlike name old new → IsFiled told old name → IsFiled told new name
filed-alike told name old new same is = record {
  opened = λ document there now. same.file ∙ is.opened document (sym same.document ∙ there) now;
  closed = λ none. closed-alike told name old new same (is.closed (sym same.document ∙ none));
}

pub kept-alike : (name : List ℕ) (old new : Workspace) → IsKept old new → IsAlike name old new
kept-alike name old new kept = record {
  document = λ i. lookup (bytes_eq name) (kept.documents i).entries;
  file = λ i. finite.get (kept.session i).project.inputs.files name;
  tried = λ i. list_any (bytes_eq name) (kept.tried i).keys;
  unread = λ i. list_any (bytes_eq name) (kept.unread i).keys;
}

pub filed-kept : (told : List ℕ → Holding) (name : List ℕ) (old new : Workspace) → IsKept old new → IsFiled told old name → IsFiled told new name
filed-kept told name old new kept is = filed-alike told name old new (kept-alike name old new kept) is

pub closed-kept : (told : List ℕ → Holding) (name : List ℕ) (old new : Workspace) → IsKept old new → IsClosed told old name → IsClosed told new name
closed-kept told name old new kept is = closed-alike told name old new (kept-alike name old new kept) is

pub all-kept : (told : List ℕ → Holding) (old new : Workspace) → IsKept old new → AreFiled told old → AreFiled told new
all-kept told old new kept are = λ name. filed-kept told name old new kept (are name)

pub all-stay : (told : List ℕ → Holding) (old new : Workspace) → StaysFiled old new → AreFiled told old → AreFiled told new
all-stay told old new stays are = λ name. filed-alike told name old new (record {
  document = λ i. lookup (bytes_eq name) (stays.documents i).entries;
  file = λ i. finite.get (stays.inputs i).files name;
  tried = λ i. list_any (bytes_eq name) (stays.tried i).keys;
  unread = λ i. list_any (bytes_eq name) (stays.unread i).keys;
}) (are name)

-- one name, and all beside it
pub all-beside : (told : List ℕ → Holding) (name : List ℕ) (old new : Workspace) → StaysBeside name old new → IsFiled told new name → AreFiled told old → AreFiled told new
all-beside told name old new stays here are = λ other. by other (bytes_eq name other) refl
  where
    by : (other : List ℕ) (b : Bool) → bytes_eq name other ≡ b → IsFiled told new other
    by other true alike = subst (λ (n : List ℕ). IsFiled told new n) ((bytes_decides name other).0 alike) here
    by other false apart = filed-alike told other old new (record {
      document = stays.documents other apart;
      file = stays.files other apart;
      tried = stays.tried other apart;
      unread = stays.unread other apart;
    }) (are other)

-- ---- what stays, through one step and another

pub set-same : (w : Workspace) → StaysSet w w
set-same w = record { encoding = refl; folders = refl; macros = refl; search = refl }

pub set-both : (a b c : Workspace) → StaysSet a b → StaysSet b c → StaysSet a c
set-both a b c first second = record {
  encoding = second.encoding ∙ first.encoding;
  folders = second.folders ∙ first.folders;
  macros = second.macros ∙ first.macros;
  search = second.search ∙ first.search;
}

pub set-kept : (old new : Workspace) → IsKept old new → StaysSet old new
set-kept old new kept = record {
  encoding = kept.encoding;
  folders = kept.folders;
  macros = λ i. (kept.session i).project.inputs.macros;
  search = λ i. (kept.session i).project.inputs.search;
}

pub set-filed : (old new : Workspace) → StaysFiled old new → StaysSet old new
set-filed old new stays = record {
  encoding = stays.encoding;
  folders = stays.folders;
  macros = λ i. (stays.inputs i).macros;
  search = λ i. (stays.inputs i).search;
}

pub open-both : (a b c : Workspace) → StaysOpen a b → StaysOpen b c → StaysOpen a c
open-both a b c first second = record {
  set = set-both a b c first.set second.set;
  documents = second.documents ∙ first.documents;
  roots = λ name root. first.roots name (second.roots name root);
}

pub compiled-both : (a b c : Workspace) → StaysCompiled a b → StaysCompiled b c → StaysCompiled a c
compiled-both a b c first second = record {
  encoding = second.encoding ∙ first.encoding;
  folders = second.folders ∙ first.folders;
  session = second.session ∙ first.session;
  documents = second.documents ∙ first.documents;
}

pub open-compiled : (old new : Workspace) → StaysCompiled old new → StaysOpen old new
open-compiled old new same = record {
  set = record {
    encoding = same.encoding;
    folders = same.folders;
    macros = λ i. (same.session i).project.inputs.macros;
    search = λ i. (same.session i).project.inputs.search;
  };
  documents = same.documents;
  roots = adds-none old.session.project new.session.project (λ i. (same.session i).project.roots);
}

pub open-kept : (old new : Workspace) → IsKept old new → StaysOpen old new
open-kept old new kept = record {
  set = set-kept old new kept;
  documents = kept.documents;
  roots = adds-none old.session.project new.session.project (λ i. (kept.session i).project.roots);
}

pub beside-both : (name : List ℕ) (a b c : Workspace) → StaysBeside name a b → StaysBeside name b c → StaysBeside name a c
beside-both name a b c first second = record {
  set = set-both a b c first.set second.set;
  documents = λ other apart. second.documents other apart ∙ first.documents other apart;
  files = λ other apart. second.files other apart ∙ first.files other apart;
  tried = λ other apart. second.tried other apart ∙ first.tried other apart;
  unread = λ other apart. second.unread other apart ∙ first.unread other apart;
  roots = λ other root. first.roots other (second.roots other root);
}

pub beside-kept : (name : List ℕ) (old new : Workspace) → IsKept old new → StaysBeside name old new
beside-kept name old new kept = record {
  set = set-kept old new kept;
  documents = λ other apart. (kept-alike other old new kept).document;
  files = λ other apart. (kept-alike other old new kept).file;
  tried = λ other apart. (kept-alike other old new kept).tried;
  unread = λ other apart. (kept-alike other old new kept).unread;
  roots = adds-none old.session.project new.session.project (λ i. (kept.session i).project.roots);
}

-- a name isn't known any more
pub beside-forgotten : (name : List ℕ) (old new : Workspace) → StaysCompiled old new → IsWith name false old.tried.keys new.tried.keys → IsWith name false old.unread.keys new.unread.keys
    → StaysBeside name old new
beside-forgotten name old new same tried unread = record {
  set = (open-compiled old new same).set;
  documents = λ other apart. (λ i. lookup (bytes_eq other) (same.documents i).entries);
  files = λ other apart. (λ i. finite.get (same.session i).project.inputs.files other);
  tried = λ other apart. tried other ∙ ap (λ (b : Bool). cond b false (list_any (bytes_eq other) old.tried.keys)) apart;
  unread = λ other apart. unread other ∙ ap (λ (b : Bool). cond b false (list_any (bytes_eq other) old.unread.keys)) apart;
  roots = (open-compiled old new same).roots;
}

pub beside-filed : (name : List ℕ) (old new : Workspace) → StaysFiled old new → AddsNoRoot old.session.project new.session.project → StaysBeside name old new
beside-filed name old new stays adds = record {
  set = set-filed old new stays;
  documents = λ other apart. λ i. lookup (bytes_eq other) (stays.documents i).entries;
  files = λ other apart. λ i. finite.get (stays.inputs i).files other;
  tried = λ other apart. λ i. list_any (bytes_eq other) (stays.tried i).keys;
  unread = λ other apart. λ i. list_any (bytes_eq other) (stays.unread i).keys;
  roots = adds;
}

-- ---- a document that is edited

-- the document is the one before but for what is said of it, and the file is the text's lines or the document is behind
pub filed-open : (told : List ℕ → Holding) (w : Workspace) (name : List ℕ) (document : Document) → lookup (bytes_eq name) w.documents.entries ≡ Some document
    → (document.is_behind ≡ false → finite.get w.session.project.inputs.files name ≡ Some (cut_lines document.text.items)) → IsFiled told w name
filed-open told w name document there lines = record {
  opened = λ d is now.
      let same : document ≡ d = one document d (sym there ∙ is) in
      subst (λ (o : Document). finite.get w.session.project.inputs.files name ≡ Some (cut_lines o.text.items)) same
      (lines (ap (λ (o : Document). o.is_behind) same ∙ now));
  closed = λ none. absurd (neither (sym there ∙ none));
}
  where
    one : (a b : Document) → Some a ≡ Some b → a ≡ b
    one a b h = cc

    neither : Some document ≡ None → ⊥
    neither h = absurd (cc)

-- what isn't open is closed
pub filed-closed : (told : List ℕ → Holding) (w : Workspace) (name : List ℕ) → lookup (bytes_eq name) w.documents.entries ≡ None → IsClosed told w name → IsFiled told w name
filed-closed told w name none closed = record { opened = λ document there now. absurd (lost document (sym none ∙ there)); closed = λ is. closed }

-- the file of a name that isn't open was taken from the disk again
pub reloaded-one : (told : List ℕ → Holding) (name : List ℕ) (old new : Workspace) → lookup (bytes_eq name) old.documents.entries ≡ None → StaysBeside name old new
    → new.documents ≡ old.documents → IsClosed told new name → AreFiled told old → AreFiled told new
reloaded-one told name old new none beside documents closed are =
    all-beside told name old new beside (filed-closed told new name ((λ i. lookup (bytes_eq name) (documents i).entries) ∙ none) closed) are

-- no document, no text
pub text-none : (documents : List (List ℕ × Document)) (name : List ℕ) → lookup (bytes_eq name) documents ≡ None → texts_of documents name ≡ None
text-none documents name is = ap (λ (o : Option Document). option_map (λ d. d.text.items) o) is

-- the document and the file of this name are others
pub beside-edited : (name : List ℕ) (old new : Workspace) → new.encoding ≡ old.encoding → new.folders ≡ old.folders → IsSameButFor name old.session.project new.session.project
    → AreSameBeside name old.documents.entries new.documents.entries → new.tried ≡ old.tried → new.unread ≡ old.unread → StaysBeside name old new
beside-edited name old new encoding folders same documents tried unread = record {
  set = record { encoding = encoding; folders = folders; macros = same.macros; search = same.search };
  documents = documents;
  files = same.files;
  tried = λ other apart. λ i. list_any (bytes_eq other) (tried i).keys;
  unread = λ other apart. λ i. list_any (bytes_eq other) (unread i).keys;
  roots = adds-none old.session.project new.session.project same.roots;
}

-- ---- files that are loaded

pub all-loaded : (told : List ℕ → Holding) (old new : Workspace) → AreLoadedOver told old.documents.entries old.session.project new.session.project → new.documents ≡ old.documents
    → new.tried ≡ old.tried → new.unread ≡ old.unread → AreFiled told old → AreFiled told new
all-loaded told old new over documents tried unread are = λ name. record {
  opened = λ document there now.
      let there_before : lookup (bytes_eq name) old.documents.entries ≡ Some document = (λ i. lookup (bytes_eq name) (sym documents i).entries) ∙ there in
      over.opened name document there_before ∙ (are name).opened document there_before now;
  closed = λ none.
      let before = (are name).closed ((λ i. lookup (bytes_eq name) (sym documents i).entries) ∙ none) in
      record {
        loaded = λ lines there. by name lines before (over.loaded name lines there);
        missing = λ is_tried is_read.
            before.missing ((λ i. list_any (bytes_eq name) (sym tried i).keys) ∙ is_tried) ((λ i. list_any (bytes_eq name) (sym unread i).keys) ∙ is_read);
      };
}
  where
    by : (name : List ℕ) (lines : List (List ℕ)) → IsClosed told old name
        → (finite.get old.session.project.inputs.files name ≡ Some lines) ⊎ IsFileOf told name lines → IsFileOf told name lines
    by name lines before (inl there) = before.loaded lines there
    by name lines before (inr is) = is

-- ---- names that were tried

-- more names were tried: each that is new is one of a file that can't be loaded, or that the loader hasn't
pub all-tried : (told : List ℕ → Holding) (old new : Workspace) → StaysCompiled old new
    → ((name : List ℕ) → list_any (bytes_eq name) new.tried.keys ≡ true → list_any (bytes_eq name) new.unread.keys ≡ false
    → ((list_any (bytes_eq name) old.tried.keys ≡ true) × (list_any (bytes_eq name) old.unread.keys ≡ false)) ⊎ Allows (told name) NoFile)
    → AreFiled told old → AreFiled told new
all-tried told old new same known are = λ name.
    let document : lookup (bytes_eq name) old.documents.entries ≡ lookup (bytes_eq name) new.documents.entries = λ i. lookup (bytes_eq name) (sym same.documents i).entries in
    let file : finite.get old.session.project.inputs.files name ≡ finite.get new.session.project.inputs.files name = λ i. finite.get (sym same.session i).project.inputs.files name in
    record {
      opened = λ d there now. sym file ∙ (are name).opened d (document ∙ there) now;
      closed = λ none.
          let before = (are name).closed (document ∙ none) in
          record {
            loaded = λ lines there. before.loaded lines (file ∙ there);
            missing = λ tried unread. by name before (known name tried unread);
          };
    }
  where
    by : (name : List ℕ) → IsClosed told old name
        → ((list_any (bytes_eq name) old.tried.keys ≡ true) × (list_any (bytes_eq name) old.unread.keys ≡ false)) ⊎ Allows (told name) NoFile → Allows (told name) NoFile
    by name before (inl tried) = before.missing tried.0 tried.1
    by name before (inr none) = none

-- a name isn't known any more
pub all-forgotten : (told : List ℕ → Holding) (name : List ℕ) (old new : Workspace) → StaysCompiled old new → IsWith name false old.tried.keys new.tried.keys
    → IsWith name false old.unread.keys new.unread.keys → AreFiled told old → AreFiled told new
all-forgotten told name old new same tried unread are =
    all-tried told old new same (λ q is_tried is_read. inl (by q (bytes_eq name q) (sym (tried q) ∙ is_tried) (sym (unread q) ∙ is_read))) are
  where
    by : (q : List ℕ) (b : Bool) → cond b false (list_any (bytes_eq q) old.tried.keys) ≡ true → cond b false (list_any (bytes_eq q) old.unread.keys) ≡ false
        → (list_any (bytes_eq q) old.tried.keys ≡ true) × (list_any (bytes_eq q) old.unread.keys ≡ false)
    by q true t u = absurd (true≢false (sym t))
    by q false t u = (t, u)

-- a name is tried, of which the loader has no file
pub all-missing : (told : List ℕ → Holding) (name : List ℕ) (old new : Workspace) → StaysCompiled old new → IsWith name true old.tried.keys new.tried.keys
    → new.unread ≡ old.unread → Allows (told name) NoFile → AreFiled told old → AreFiled told new
all-missing told name old new same tried unread none are =
    all-tried told old new same
    (λ q is_tried is_read. by q (bytes_eq name q) refl (sym (tried q) ∙ is_tried) ((λ i. list_any (bytes_eq q) (sym unread i).keys) ∙ is_read)) are
  where
    by : (q : List ℕ) (b : Bool) → bytes_eq name q ≡ b → cond b true (list_any (bytes_eq q) old.tried.keys) ≡ true → list_any (bytes_eq q) old.unread.keys ≡ false
        → ((list_any (bytes_eq q) old.tried.keys ≡ true) × (list_any (bytes_eq q) old.unread.keys ≡ false)) ⊎ Allows (told q) NoFile
    by q true alike t u = inr (subst (λ (n : List ℕ). Allows (told n) NoFile) ((bytes_decides name q).0 alike) none)
    by q false apart t u = inl (t, u)

-- a name is one of a file that can't be loaded, and it may be tried
pub all-passed : (told : List ℕ → Holding) (name : List ℕ) (old new : Workspace) → StaysCompiled old new → IsWith name true old.unread.keys new.unread.keys
    → ((q : List ℕ) → bytes_eq name q ≡ false → list_any (bytes_eq q) new.tried.keys ≡ list_any (bytes_eq q) old.tried.keys) → AreFiled told old → AreFiled told new
all-passed told name old new same unread tried are =
    all-tried told old new same (λ q is_tried is_read. inl (by q (bytes_eq name q) refl is_tried (sym (unread q) ∙ is_read))) are
  where
    by : (q : List ℕ) (b : Bool) → bytes_eq name q ≡ b → list_any (bytes_eq q) new.tried.keys ≡ true → cond b true (list_any (bytes_eq q) old.unread.keys) ≡ false
        → (list_any (bytes_eq q) old.tried.keys ≡ true) × (list_any (bytes_eq q) old.unread.keys ≡ false)
    by q true alike t u = absurd (true≢false u)
    by q false apart t u = (sym (tried q apart) ∙ t, u)

-- ---- what was tried

pub tried-alike : (old new : Workspace) (name : List ℕ) → IsAlike name old new → IsTried old name → IsTried new name
tried-alike old new name same (inl tried) = inl (same.tried ∙ tried)
tried-alike old new name same (inr there) = inr (subst (λ (o : Option Document). IsSome o) (sym same.document) there)

pub tried-kept : (old new : Workspace) → IsKept old new → AreTried old → AreTried new
tried-kept old new kept are =
    subst (λ (s : State). All (λ root. All (IsTried new) (compiled_root s.project.inputs root).absent) s.project.roots) (sym kept.session)
    (All-weaker (λ root. All (IsTried old) (compiled_root old.session.project.inputs root).absent) (λ root. All (IsTried new) (compiled_root old.session.project.inputs root).absent)
    (λ root. All-weaker (IsTried old) (IsTried new) (λ name. tried-alike old new name (kept-alike name old new kept)) (compiled_root old.session.project.inputs root).absent)
    old.session.project.roots are)

-- ---- files that are put, as one edit

-- a file that the loader has, of a name that isn't open
pub put-edit : (told : List ℕ → Holding) (documents : List (List ℕ × Document)) (name other : List ℕ) (lines : List (List ℕ)) → other ≡ name → IsFileOf told name lines
    → lookup (bytes_eq name) documents ≡ None → IsLoadedEdit told documents (Put other lines)
put-edit told documents name other lines same is closed =
    subst (λ (n : List ℕ). IsFileOf told n lines × (lookup (bytes_eq n) documents ≡ None)) (sym same) (is, closed)

-- the same, where it is tried
pub all-passed-over : (told : List ℕ → Holding) (name : List ℕ) (old new : Workspace) → StaysCompiled old new → IsWith name true old.unread.keys new.unread.keys
    → IsWith name true old.tried.keys new.tried.keys → AreFiled told old → AreFiled told new
all-passed-over told name old new same unread tried =
    all-passed told name old new same unread
    (λ q apart. tried q ∙ ap (λ (b : Bool). cond b true (list_any (bytes_eq q) old.tried.keys)) apart)

pub remove-edit : (told : List ℕ → Holding) (documents : List (List ℕ × Document)) (name other : List ℕ) → other ≡ name → lookup (bytes_eq name) documents ≡ None
    → IsLoadedEdit told documents (Remove other)
remove-edit told documents name other same closed = subst (λ (n : List ℕ). lookup (bytes_eq n) documents ≡ None) (sym same) closed

pub put-loaded : (told : List ℕ → Holding) (edits : List Edit) (old : Workspace) (s : State) (new : Workspace) → All (IsLoadedEdit told old.documents.entries) edits
    → after_all old.session.project edits ≡ Ok s.project → IsKept (record old { session = s }) new → StaysOpen old new × (AreFiled told old → AreFiled told new)
put-loaded told edits old s new are made kept =
    let put = record old { session = s } in
    let over = loaded-all told old.documents.entries edits old.session.project s.project are made in (
      open-both old put new (record {
        set = record { encoding = refl; folders = refl; macros = over.macros; search = over.search };
        documents = refl;
        roots = adds-none old.session.project s.project over.roots;
      })
          (open-kept put new kept),
      λ filed. all-kept told put new kept (all-loaded told old put over refl refl refl filed),
    )

-- a session that is the same
pub session-same : (old : Workspace) (s : State) → s ≡ old.session → StaysFiled old (record old { session = s })
session-same old s same = record {
  encoding = refl;
  folders = refl;
  inputs = λ i. (same i).project.inputs;
  documents = refl;
  tried = refl;
  unread = refl;
}

pub session-open : (old : Workspace) (s : State) → s ≡ old.session → StaysOpen old (record old { session = s })
session-open old s same = record {
  set = set-filed old (record old { session = s }) (session-same old s same);
  documents = refl;
  roots = adds-none old.session.project s.project (λ i. (same i).project.roots);
}

-- nothing but the roots is another, and then nothing but what is to be told
pub stays-kept : (old mid new : Workspace) → StaysFiled old mid → IsKept mid new → StaysFiled old new
stays-kept old mid new stays kept = record {
  encoding = kept.encoding ∙ stays.encoding;
  folders = kept.folders ∙ stays.folders;
  inputs = (λ i. (kept.session i).project.inputs) ∙ stays.inputs;
  documents = kept.documents ∙ stays.documents;
  tried = kept.tried ∙ stays.tried;
  unread = kept.unread ∙ stays.unread;
}

pub kept-stays : (old mid new : Workspace) → IsKept old mid → StaysFiled mid new → StaysFiled old new
kept-stays old mid new kept stays = record {
  encoding = stays.encoding ∙ kept.encoding;
  folders = stays.folders ∙ kept.folders;
  inputs = stays.inputs ∙ (λ i. (kept.session i).project.inputs);
  documents = stays.documents ∙ kept.documents;
  tried = stays.tried ∙ kept.tried;
  unread = stays.unread ∙ kept.unread;
}

-- edits that are refused, of which one is passed over
pub put-passed : (told : List ℕ → Holding) (old : Workspace) (s : State) (mid new : Workspace) → s ≡ old.session → StaysCompiled (record old { session = s }) mid
    → (AreFiled told (record old { session = s }) → AreFiled told mid) → IsKept mid new → StaysOpen old new × (AreFiled told old → AreFiled told new)
put-passed told old s mid new same stays filed kept =
    let put = record old { session = s } in
    let before = session-same old s same in (
      open-both old put new (session-open old s same) (open-both put mid new (open-compiled put mid stays) (open-kept mid new kept)),
      λ are. all-kept told mid new kept (filed (all-stay told old put before are)),
    )
