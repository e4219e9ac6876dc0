-- Files that are edited before they are put in place, and what is answered meanwhile.
use Rattle.std.proofs.Common.{◌≡◌, ◌≢◌, ◌∙◌, ℕ, ◌||◌, Bool, true, false, cond, All, List, [], ◌∷◌, ◌++◌, Option, None, Some, Result, Ok, Err, arith, inl, inr, is_none, is_some, length, refl, sym, ap, subst}
use Rattle.std.proofs.lemmas.Bool.{false≢true, true≢false}
use Rattle.std.proofs.lemmas.List.Elements.{All-nil, All-push}
use Rattle.std.proofs.lemmas.List.Folds.{list_any-append}
use Rattle.std.specs.Borrow.{Bor}
use Rattle.std.specs.Cmp.Lexicographic.{bytes_decides, nat_list_eq_equiv}
use Rattle.std.specs.FinMap as finite
use Rattle.std.specs.List.{list_any}
use Rattle.std.specs.Map.{keys_of, lookup}
use Rattle.std.specs.Option.{option_copied, option_map, unwrap_or}
use Rattle.std.specs.Str.{bytes_eq}
use Rattle.std.specs.Prelude.{if◌then◌else◌}
use Rattle.idl_event.specs.Key.{key_eq, same_key}
use Rattle.idl_event.specs.declared.asked.key.RootAnswer.{RootAnswer}
use Rattle.idl_event.specs.declared.asked.key.RootAnswer.TheVariants as answer
use Rattle.idl_event.specs.declared.asked.key.RootKey.{RootKey}
use Rattle.idl_event.specs.declared.asked.key.RootKey.TheVariants as key
use Rattle.idl_memo.specs.Cause.{IsCause, changed}
use Rattle.idl_source.specs.declared.refusal.Refusal.{Refusal}
use Rattle.idl_source.specs.declared.refusal.Refusal.TheVariants.{BadName, NoSuchFile, OverLimit}
use Rattle.idl_source.specs.names.Name.{is_name}
use Rattle.idl_source.specs.texts.Texts.{Texts, after_splice_of, is_over}
use Rattle.idl_inputs.specs.Bank.{IsSameBeside, bank_of}
use Rattle.idl_inputs.specs.Batch.{edit_of}
use Rattle.idl_inputs.specs.Edits.{takes_memory, after, result_map}
use Rattle.idl_inputs.specs.Project.{Inputs, Project, with_files}
use Rattle.idl_inputs.specs.Refiled.{AreCauses, AreDone, AreRefiled, IsPushedIf, files_after, files_by, name_of, refiled}
use Rattle.idl_inputs.specs.declared.edited_files.EditedFiles.{EditedFiles}
use Rattle.idl_inputs.specs.declared.file_edit.FileEdit.{FileEdit}
use Rattle.idl_inputs.specs.declared.file_edit.FileEdit.TheVariants as file
use Rattle.idl_inputs.proofs.CauseLemmas.{key_eq-itself, neither}
use Rattle.idl_inputs.proofs.FileLemmas.{put-beside, remove-beside, splice-beside}

-- ---- an edit of a file

-- it makes of a project what it makes of its files
pub after-by : (project : Project) (edit : FileEdit) → after project (edit_of edit) ≡ result_map (with_files project) (files_by project.inputs.files edit)
after-by project (file.Put name lines) = refl
after-by project (file.Splice name span lines) = refl
after-by project (file.Remove name) = refl

pub accepted-by : (project : Project) (files done : Texts) (edit : FileEdit) → project.inputs.files ≡ files → files_by files edit ≡ Ok done → after project (edit_of edit) ≡ Ok (with_files project done)
accepted-by project files done edit same is =
    after-by project edit ∙ ap (λ (fs : Texts). result_map (with_files project) (files_by fs edit)) same ∙ ap (result_map (with_files project)) is

pub refused-by : (project : Project) (files : Texts) (edit : FileEdit) (refusal : Refusal) → project.inputs.files ≡ files → files_by files edit ≡ Err refusal → after project (edit_of edit) ≡ Err refusal
refused-by project files edit refusal same is =
    after-by project edit ∙ ap (λ (fs : Texts). result_map (with_files project) (files_by fs edit)) same ∙ ap (result_map (with_files project)) is

-- it changes that file alone
pub beside-by : (files after : Texts) (edit : FileEdit) → files_by files edit ≡ Ok after → IsSameBeside (name_of edit) files after
beside-by files after (file.Put name lines) h = put-beside files after name.now lines.items h
beside-by files after (file.Splice name span lines) h = splice-beside files after name.now span.from span.del lines.items h
beside-by files after (file.Remove name) h = remove-beside files after name.now h

-- whose name is one
named : (allowed : Bool) (part : Result Texts Refusal) (after : Texts) → cond allowed part (Err BadName) ≡ Ok after → allowed ≡ true
named true part after h = refl
named false part after h = absurd (cc)

pub named-by : (files after : Texts) (edit : FileEdit) → files_by files edit ≡ Ok after → is_name (name_of edit) ≡ true
named-by files after (file.Put name lines) h = named (is_name name.now) (if is_over files name.now lines.items then Err OverLimit else Ok (finite.insert files name.now lines.items)) after h
named-by files after (file.Splice name span lines) h = named (is_name name.now) (after_splice_of files name.now (finite.get files name.now) span.from span.del lines.items) after h
named-by files after (file.Remove name) h = named (is_name name.now) (if is_none (finite.get files name.now) then Err NoSuchFile else Ok (finite.remove files name.now)) after h

-- ---- edited files

-- none yet
pub refiled-none : (inputs : Inputs) (edited : EditedFiles) → edited.files ≡ None → edited.answers.entries ≡ [] → AreRefiled inputs edited
unfolding refiled bank_of
refiled-none inputs edited files entries =
    λ name.
    ap (λ (es : List (List ℕ × Option RootAnswer)). unwrap_or (lookup (bytes_eq name) es) (option_map answer.File (finite.get inputs.files name))) entries
    ∙ ap (λ (fs : Option Texts). option_map answer.File (finite.get (unwrap_or fs inputs.files) name)) (sym files)

module _ (inputs : Inputs) (was now : EditedFiles) (name : List ℕ) (files : Texts) (given : Option RootAnswer)
    (are : AreRefiled inputs was) (beside : IsSameBeside name (files_after inputs.files was) files) (answers : given ≡ option_map answer.File (finite.get files name)) (is : now.files ≡ Some files)
    (entries : (q : List ℕ) → lookup (bytes_eq q) now.answers.entries ≡ cond (bytes_eq name q) (Some given) (lookup (bytes_eq q) was.answers.entries)) where
  pub files-more : files_after inputs.files now ≡ files
  files-more = ap (λ (fs : Option Texts). unwrap_or fs inputs.files) is

  answered : (q : List ℕ) (b : Bool) → bytes_eq name q ≡ b
      → unwrap_or (cond b (Some given) (lookup (bytes_eq q) was.answers.entries)) (bank_of inputs (key.File q)) ≡ option_map answer.File (finite.get files q)
  unfolding refiled
  answered q true same = answers ∙ ap (λ (n : List ℕ). option_map answer.File (finite.get files n)) ((bytes_decides name q).0 same)
  answered q false other = are q ∙ ap (option_map answer.File) (sym (beside q other))

  -- and one more
  pub refiled-more : AreRefiled inputs now
  unfolding refiled
  refiled-more =
      λ q.
      ap (λ (a : Option (Option RootAnswer)). unwrap_or a (bank_of inputs (key.File q))) (entries q)
      ∙ ap (λ b. unwrap_or (cond b (Some given) (lookup (bytes_eq q) was.answers.entries)) (bank_of inputs (key.File q))) refl
      ∙ answered q (bytes_eq name q) refl
      ∙ ap (λ (fs : Texts). option_map answer.File (finite.get fs q)) (sym files-more)

-- their bank is that of the inputs with them
refiled-at : (inputs : Inputs) (edited : EditedFiles) → AreRefiled inputs edited → (k : RootKey)
    → refiled (bank_of inputs) edited.answers.entries k ≡ bank_of (record inputs { files = files_after inputs.files edited }) k
unfolding refiled bank_of
refiled-at inputs edited are (key.File name) = are name
refiled-at inputs edited are (key.Macro word) = refl
refiled-at inputs edited are key.Search = refl

pub refiled-is : (inputs : Inputs) (edited : EditedFiles) → AreRefiled inputs edited → refiled (bank_of inputs) edited.answers.entries ≡ bank_of (record inputs { files = files_after inputs.files edited })
refiled-is inputs edited are i k = refiled-at inputs edited are k i

-- nothing done
pub done-none : (project : Project) (inputs : Inputs) (edited : EditedFiles) → project.inputs ≡ inputs → edited.files ≡ None → AreDone project [] (files_after inputs.files edited)
done-none project inputs edited same none =
    ap (λ (fs : Texts). Ok (with_files project fs))
    (ap (λ (i : Inputs). i.files) same ∙ ap (λ (fs : Option Texts). unwrap_or fs inputs.files) (sym none))

pub empty-left : {X : Type 0} (xs : List X) → length xs ≡ 0 → xs ≡ []
empty-left [] h = refl
empty-left (x ∷ xs) h = absurd (omega arith)

-- every edit of a file takes memory
pub takes-by : (edit : FileEdit) → takes_memory (edit_of edit) ≡ true
takes-by (file.Put name lines) = refl
takes-by (file.Splice name span lines) = refl
takes-by (file.Remove name) = refl

-- ---- what is put in place

-- the texts with the answers of edited files are those of the files after the edits
pub texts-refiled : (inputs : Inputs) (edited : EditedFiles) (old new : List (List ℕ × RootAnswer)) (files : Texts) → AreRefiled inputs edited
    → ((name : List ℕ) → lookup (bytes_eq name) old ≡ option_map answer.File (finite.get inputs.files name))
    → ((name : List ℕ) → lookup (bytes_eq name) new ≡ unwrap_or (lookup (bytes_eq name) edited.answers.entries) (lookup (bytes_eq name) old))
    → files_after inputs.files edited ≡ files → (name : List ℕ) → lookup (bytes_eq name) new ≡ option_map answer.File (finite.get files name)
unfolding refiled bank_of
texts-refiled inputs edited old new files are texts put is =
    λ name.
    put name
    ∙ ap (λ (a : Option RootAnswer). unwrap_or (lookup (bytes_eq name) edited.answers.entries) a) (texts name)
    ∙ are name
    ∙ ap (λ (fs : Texts). option_map answer.File (finite.get fs name)) is

-- the last entry is found where none before it is
found-last : (q n : List ℕ) (a : Option RootAnswer) (es : List (List ℕ × Option RootAnswer)) → lookup (bytes_eq q) es ≡ None → bytes_eq q n ≡ true → lookup (bytes_eq q) (es ++ (n, a) ∷ []) ≡ Some a
found-last q n a [] none same = ap (λ b. cond b (Some a) None) same
found-last q n a (e ∷ es) none same = by (bytes_eq q e.0) none (λ later. found-last q n a es later same)
  where
    by : (b : Bool) → cond b (Some e.1) (lookup (bytes_eq q) es) ≡ None → (lookup (bytes_eq q) es ≡ None → lookup (bytes_eq q) (es ++ (n, a) ∷ []) ≡ Some a)
        → cond b (Some e.1) (lookup (bytes_eq q) (es ++ (n, a) ∷ [])) ≡ Some a
    by true h later = absurd (cc)
    by false h later = later h

-- an entry is taken off the end and put in place: with the rest that answers as before
pub popped : (q n : List ℕ) (a : Option RootAnswer) (whole rest : List (List ℕ × Option RootAnswer)) (was now : Option RootAnswer) → whole ≡ rest ++ (n, a) ∷ []
    → lookup (bytes_eq q) rest ≡ cond (bytes_eq n q) None (lookup (bytes_eq q) whole) → now ≡ cond (bytes_eq n q) a was
    → unwrap_or (lookup (bytes_eq q) rest) now ≡ unwrap_or (lookup (bytes_eq q) whole) was
popped q n a whole rest was now parts left put = by (bytes_eq n q) refl left put
  where
    by : (b : Bool) → bytes_eq n q ≡ b → lookup (bytes_eq q) rest ≡ cond b None (lookup (bytes_eq q) whole) → now ≡ cond b a was
        → unwrap_or (lookup (bytes_eq q) rest) now ≡ unwrap_or (lookup (bytes_eq q) whole) was
    by true same none is =
        ap (λ (o : Option (Option RootAnswer)). unwrap_or o now) none
        ∙ is
        ∙ ap (λ (o : Option (Option RootAnswer)). unwrap_or o was) (sym (found-last q n a rest none (nat_list_eq_equiv.symm q n ∙ same)))
        ∙ ap (λ (es : List (List ℕ × Option RootAnswer)). unwrap_or (lookup (bytes_eq q) es) was) (sym parts)
    by false other same is = ap (λ (o : Option (Option RootAnswer)). unwrap_or o now) same ∙ ap (λ (v : Option RootAnswer). unwrap_or (lookup (bytes_eq q) whole) v) is

-- ---- causes

-- the one other answer of an edit is what it says
module _ (bank : RootKey → Option RootAnswer) (at : RootKey) (given : Option RootAnswer) where
  own : (k : RootKey) (b : Bool) → key_eq at k ≡ b → given ≡ bank at → cond b given (bank k) ≡ bank k
  own k true same is = is ∙ ap bank (same_key at k same)
  own k false other is = refl

  pub given-same : IsCause bank (changed key_eq bank at given) None → given ≡ bank at
  unfolding changed
  given-same none = sym (ap (λ b. cond b given (bank at)) (key_eq-itself at)) ∙ none at

  pub given-other : (k : RootKey) → IsCause bank (changed key_eq bank at given) (Some k) → given ≢ bank at
  unfolding changed
  given-other k cause = λ is. cause.0 (own k (key_eq at k) refl is)

  given-none : (found : Option (Bor RootKey)) → is_some found ≡ false → IsCause bank (changed key_eq bank at given) (option_copied found) → given ≡ bank at
  given-none None none cause = given-same cause
  given-none (Some k) none cause = absurd (true≢false none)

  given-some : (found : Option (Bor RootKey)) → is_some found ≡ true → IsCause bank (changed key_eq bank at given) (option_copied found) → given ≢ bank at
  given-some None some cause = absurd (false≢true some)
  given-some (Some k) some cause = given-other k.now cause

  -- so a key is passed over where it has the answer that it had
  pub passed-over : (new : RootKey → Option RootAnswer) (key : RootKey) (found : Option (Bor RootKey)) (causes : List RootKey) → at ≡ key → given ≡ new at → is_some found ≡ false
      → IsCause bank (changed key_eq bank at given) (option_copied found) → IsPushedIf bank new key causes causes
  passed-over new key found causes same gives none cause =
      inl (subst (λ (k : RootKey). new k ≡ bank k) same (sym gives ∙ given-none found none cause), refl)

  -- and put in where it has another one
  pub put-in : (new : RootKey → Option RootAnswer) (key : RootKey) (found : Option (Bor RootKey)) (before after : List RootKey) → at ≡ key → given ≡ new at → is_some found ≡ true
      → IsCause bank (changed key_eq bank at given) (option_copied found) → after ≡ before ++ at ∷ [] → IsPushedIf bank new key before after
  put-in new key found before after same gives some cause pushed =
      inr (subst (λ (k : RootKey). new k ≢ bank k) same (λ is. given-some found some cause (gives ∙ is)), pushed ∙ ap (λ (k : RootKey). before ++ k ∷ []) same)

module _ (bank : RootKey → Option RootAnswer) (entries : List (List ℕ × Option RootAnswer)) where
  abbrev edited_bank : RootKey → Option RootAnswer
  edited_bank = refiled bank entries

  -- a file that wasn't edited
  missing : (q : List ℕ) (es : List (List ℕ × Option RootAnswer)) → list_any (bytes_eq q) (keys_of es) ≡ false → lookup (bytes_eq q) es ≡ None
  missing q [] none = refl
  missing q (e ∷ es) none = by (bytes_eq q e.0) none (missing q es)
    where
      by : (b : Bool) → (b || list_any (bytes_eq q) (keys_of es)) ≡ false → (list_any (bytes_eq q) (keys_of es) ≡ false → lookup (bytes_eq q) es ≡ None) → cond b (Some e.1) (lookup (bytes_eq q) es) ≡ None
      by true h later = absurd (true≢false h)
      by false h later = later h

  -- what is known while so many names are still to be looked at
  pub record AreCausesBut (names : List (List ℕ)) (causes : List RootKey) : Type 0 where
    pub other : All (λ (k : RootKey). edited_bank k ≢ bank k) causes
    pub same : (q : List ℕ) → list_any (bytes_eq q) names ≡ false → list_any (λ (cause : RootKey). key_eq cause (key.File q)) causes ≡ false → edited_bank (key.File q) ≡ bank (key.File q)

  pub causes-begin : AreCausesBut (keys_of entries) []
  unfolding refiled
  causes-begin = record {
    other = All-nil (λ (k : RootKey). edited_bank k ≢ bank k);
    same = λ q none _. ap (λ (a : Option (Option RootAnswer)). unwrap_or a (bank (key.File q))) (missing q entries none);
  }

  pub causes-end : (causes : List RootKey) → AreCausesBut [] causes → AreCauses bank edited_bank causes
  unfolding refiled
  causes-end causes are = record { other = are.other; same = at }
    where
      at : (k : RootKey) → list_any (λ (cause : RootKey). key_eq cause k) causes ≡ false → edited_bank k ≡ bank k
      at (key.File q) none = are.same q refl none
      at (key.Macro word) none = refl
      at key.Search none = refl

  some-last : (name q : List ℕ) (causes : List RootKey) → bytes_eq q name ≡ true → list_any (λ (cause : RootKey). key_eq cause (key.File q)) (causes ++ key.File name ∷ []) ≡ true
  some-last name q causes same =
      list_any-append (λ (cause : RootKey). key_eq cause (key.File q)) causes (key.File name ∷ [])
      ∙ ap (λ (n : List ℕ). list_any (λ (cause : RootKey). key_eq cause (key.File q)) causes || (key_eq (key.File n) (key.File q) || false)) (sym ((bytes_decides q name).0 same))
      ∙ ap (λ b. list_any (λ (cause : RootKey). key_eq cause (key.File q)) causes || (b || false)) (key_eq-itself (key.File q))
      ∙ or-true (list_any (λ (cause : RootKey). key_eq cause (key.File q)) causes)
    where
      or-true : (b : Bool) → (b || true) ≡ true
      or-true true = refl
      or-true false = refl

  first-none : (q : List ℕ) (causes : List RootKey) (name : List ℕ) → list_any (λ (cause : RootKey). key_eq cause (key.File q)) (causes ++ key.File name ∷ []) ≡ false
      → list_any (λ (cause : RootKey). key_eq cause (key.File q)) causes ≡ false
  first-none q causes name none =
      (neither (list_any (λ (cause : RootKey). key_eq cause (key.File q)) causes) (list_any (λ (cause : RootKey). key_eq cause (key.File q)) (key.File name ∷ []))
      (sym (list_any-append (λ (cause : RootKey). key_eq cause (key.File q)) causes (key.File name ∷ [])) ∙ none)).0

  -- one name more is looked at
  pub causes-more : (name : List ℕ) (names : List (List ℕ)) (before after : List RootKey) → AreCausesBut (name ∷ names) before → IsPushedIf bank edited_bank (key.File name) before after → AreCausesBut names after
  causes-more name names before after are (inl left) = record {
    other = subst (λ (ks : List RootKey). All (λ (k : RootKey). edited_bank k ≢ bank k) ks) (sym left.1) are.other;
    same = λ q none unasked. by q (bytes_eq q name) refl none (ap (λ (ks : List RootKey). list_any (λ (cause : RootKey). key_eq cause (key.File q)) ks) (sym left.1) ∙ unasked);
  }
    where
      by : (q : List ℕ) (b : Bool) → bytes_eq q name ≡ b → list_any (bytes_eq q) names ≡ false → list_any (λ (cause : RootKey). key_eq cause (key.File q)) before ≡ false → edited_bank (key.File q) ≡ bank (key.File q)
      by q true same none unasked = subst (λ (n : List ℕ). edited_bank (key.File n) ≡ bank (key.File n)) (sym ((bytes_decides q name).0 same)) left.0
      by q false other none unasked = are.same q (ap (λ b. b || list_any (bytes_eq q) names) other ∙ none) unasked
  causes-more name names before after are (inr put) = record {
    other = subst (λ (ks : List RootKey). All (λ (k : RootKey). edited_bank k ≢ bank k) ks) (sym put.1) (All-push (λ (k : RootKey). edited_bank k ≢ bank k) before (key.File name) are.other put.0);
    same = λ q none unasked. by q (bytes_eq q name) refl none (ap (λ (ks : List RootKey). list_any (λ (cause : RootKey). key_eq cause (key.File q)) ks) (sym put.1) ∙ unasked);
  }
    where
      by : (q : List ℕ) (b : Bool) → bytes_eq q name ≡ b → list_any (bytes_eq q) names ≡ false
          → list_any (λ (cause : RootKey). key_eq cause (key.File q)) (before ++ key.File name ∷ []) ≡ false → edited_bank (key.File q) ≡ bank (key.File q)
      by q true same none unasked = absurd (true≢false (sym (some-last name q before same) ∙ unasked))
      by q false other none unasked = are.same q (ap (λ b. b || list_any (bytes_eq q) names) other ∙ none) (first-none q before name unasked)
