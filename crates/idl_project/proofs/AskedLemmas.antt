-- The files that a root asked for: of one that is held, and over two projects.
use Rattle.std.proofs.Common.{◌≡◌, ℕ, All, Bool, true, false, cond, ◌||◌, List, [], ◌∷◌, ◌++◌, flat_map, Option, None, Some, ap, refl, sym, ◌∙◌, Bor, if◌then◌else◌}
use Rattle.std.proofs.lemmas.List.Elements.{All-cons, All-head, All-nil, All-tail}
use Rattle.std.specs.FinMap as finite
use Rattle.std.specs.Cmp.Lexicographic.{bytes_decides}
use Rattle.std.specs.List.{list_any}
use Rattle.std.specs.Map.{keys_of, lookup}
use Rattle.std.specs.Option.{IfNone, IfSome, option_copied, option_map}
use Rattle.std.specs.Str.{bytes_eq}
use Rattle.idl_event.specs.declared.asked.key.RootAnswer.{RootAnswer}
use Rattle.idl_event.specs.declared.asked.key.RootAnswer.TheVariants as answer
use Rattle.idl_event.specs.declared.asked.key.RootKey.{RootKey}
use Rattle.idl_event.specs.declared.asked.key.RootKey.TheVariants as key
use Rattle.idl_memo.specs.Query.{HoldsIn}
use Rattle.idl_prep.specs.Include.{file_in}
use Rattle.idl_inputs.specs.Asked.{asked_file, asked_files, asked_over}
use Rattle.idl_inputs.specs.Bank.{bank_of}
use Rattle.idl_inputs.specs.Project.{Inputs}
use Rattle.idl_project.specs.UpToDate.{AreKept, IsKept}
use Rattle.idl_project.specs.declared.kept_root.KeptRoot.{KeptRoot}

-- what is kept of a root asked for what compiling the root asks for
asked-kept : (bank : RootKey → Option RootAnswer) (name : List ℕ) (kept : KeptRoot) → IsKept bank (name, kept) → asked_files kept.result.value.log ≡ asked_over bank name
asked-kept bank name kept is = ap (λ (left : _). asked_files left.1) is.over ∙ ap (asked_over bank) is.text

-- of roots that are kept a name is found with what compiling it asks for, and no other name is found
pub lookup-asked : (bank : RootKey → Option RootAnswer) (held : List (List ℕ × KeptRoot)) (name : List ℕ) → AreKept bank held
    → option_map (λ (k : KeptRoot). asked_files k.result.value.log) (lookup (bytes_eq name) held)
    ≡ (if list_any (bytes_eq name) (keys_of held) then Some (asked_over bank name) else None)
lookup-asked bank [] name h = refl
lookup-asked bank (e ∷ es) name h = by (bytes_eq name e.0) refl (lookup-asked bank es name (All-tail (λ (root : List ℕ × KeptRoot). IsKept bank root) e es h))
  where
    by : (b : Bool) → bytes_eq name e.0 ≡ b
        → option_map (λ (k : KeptRoot). asked_files k.result.value.log) (lookup (bytes_eq name) es) ≡ (if list_any (bytes_eq name) (keys_of es) then Some (asked_over bank name) else None)
        → option_map (λ (k : KeptRoot). asked_files k.result.value.log) (cond b (Some e.1) (lookup (bytes_eq name) es))
        ≡ (if (b || list_any (bytes_eq name) (keys_of es)) then Some (asked_over bank name) else None)
    by true same rest =
        let kept : IsKept bank e = All-head (λ (root : List ℕ × KeptRoot). IsKept bank root) e es h in
        ap Some (asked-kept bank e.0 e.1 kept ∙ ap (asked_over bank) (sym ((bytes_decides name e.0).0 same)))
    by false other rest = rest

module _ (bank : RootKey → Option RootAnswer) (held : List (List ℕ × KeptRoot)) (name : List ℕ) (up : AreKept bank held) where
  abbrev pub Asks : Bool → Option (List (List ℕ)) → Type 0
  Asks b found = found ≡ (if b then Some (asked_over bank name) else None)

  -- what is found asked for what is answered for the name
  pub some-asked : (found : Option (Bor KeptRoot)) → option_copied found ≡ lookup (bytes_eq name) held
      → IfSome found (λ k. asked_files k.now.result.value.log ≡ (if list_any (bytes_eq name) (keys_of held) then asked_over bank name else []))
  some-asked None e = tt
  some-asked (Some k) e =
      by (list_any (bytes_eq name) (keys_of held)) (ap (option_map (λ (k : KeptRoot). asked_files k.result.value.log)) e ∙ lookup-asked bank held name up)
    where
      by : (b : Bool) → Asks b (Some (asked_files k.now.result.value.log)) → asked_files k.now.result.value.log ≡ (if b then asked_over bank name else [])
      by true h = cc
      by false h = absurd (cc)

  -- where nothing is found, nothing is answered
  pub none-asked : (found : Option (Bor KeptRoot)) → option_copied found ≡ lookup (bytes_eq name) held
      → IfNone found ((if list_any (bytes_eq name) (keys_of held) then asked_over bank name else []) ≡ [])
  none-asked None e = by (list_any (bytes_eq name) (keys_of held)) (ap (option_map (λ (k : KeptRoot). asked_files k.result.value.log)) e ∙ lookup-asked bank held name up)
    where
      by : (b : Bool) → Asks b None → (if b then asked_over bank name else []) ≡ []
      by true h = absurd (cc)
      by false h = refl
  none-asked (Some k) e = tt

-- ---- over two projects

file_in-answer : (lines : Option (List (List ℕ))) → file_in (option_map answer.File lines) ≡ lines
file_in-answer None = refl
file_in-answer (Some lines) = refl

-- a file's answer is its lines
file_in-bank : (inputs : Inputs) (name : List ℕ) → file_in (bank_of inputs (key.File name)) ≡ finite.get inputs.files name
unfolding bank_of
file_in-bank inputs name = file_in-answer (finite.get inputs.files name)

-- files that were asked for are the same where the answers to all that was asked are the same
module _ (old new : Inputs) where
  abbrev IsSame : List ℕ → Type 0
  IsSame name = finite.get new.files name ≡ finite.get old.files name

  abbrev Is : (RootKey → Option RootAnswer) → RootKey × Option RootAnswer → Type 0
  Is bank e = e.1 ≡ bank e.0

  files-in : (log : List (RootKey × Option RootAnswer)) → HoldsIn (bank_of old) log → HoldsIn (bank_of new) log → All IsSame (flat_map asked_file log)
  files-in [] was now = All-nil IsSame
  files-in (e ∷ log) was now =
      by e.0 refl (files-in log (All-tail (Is (bank_of old)) e log was) (All-tail (Is (bank_of new)) e log now))
    where
      by : (k : RootKey) → e.0 ≡ k → All IsSame (flat_map asked_file log) → All IsSame (asked_file (k, e.1) ++ flat_map asked_file log)
      by (key.Macro word) is rest = rest
      by (key.File name) is rest =
          let answered : bank_of new (key.File name) ≡ bank_of old (key.File name) =
          ap (bank_of new) (sym is) ∙ sym (All-head (Is (bank_of new)) e log now) ∙ All-head (Is (bank_of old)) e log was ∙ ap (bank_of old) is in
          All-cons IsSame name (flat_map asked_file log) (sym (file_in-bank new name) ∙ ap file_in answered ∙ file_in-bank old name) rest
      by key.Search is rest = rest

  pub files-alike : (log : List (RootKey × Option RootAnswer)) → HoldsIn (bank_of old) log → HoldsIn (bank_of new) log → All IsSame (asked_files log)
  unfolding asked_files
  files-alike log was now = files-in log was now
