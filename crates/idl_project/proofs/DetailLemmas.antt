-- The details of a root: those of what is kept, and what they are printed as.
use Rattle.std.proofs.Common.{◌≡◌, ◌∙◌, ℕ, Bool, true, false, cond, ◌||◌, List, [], ◌∷◌, Option, None, Some, if◌then◌else◌, refl, sym, ap}
use Rattle.std.proofs.lemmas.List.Elements.{All-head, All-tail}
use Rattle.std.specs.Cmp.Lexicographic.{bytes_decides}
use Rattle.std.specs.List.{list_any}
use Rattle.std.specs.Map.{keys_of, lookup}
use Rattle.std.specs.Option.{option_map}
use Rattle.std.specs.Str.{bytes_eq}
use Rattle.idl_event.specs.declared.asked.key.RootAnswer.{RootAnswer}
use Rattle.idl_event.specs.declared.asked.key.RootKey.{RootKey}
use Rattle.idl_event.specs.declared.told.event.Event.{Event}
use Rattle.idl_fault.specs.declared.place.Place.{Place}
use Rattle.idl_prep.specs.Root.{expanded}
use Rattle.idl_sources.specs.idl_root.Compile.{compile}
use Rattle.idl_sources.specs.idl_root.Details.{details, printed}
use Rattle.idl_sources.specs.idl_root.declared.compiling.detailing.Details.{Details}
use Rattle.idl_inputs.specs.Bank.{bank_of}
use Rattle.idl_sources.specs.Compile.{compile_over, end_of}
use Rattle.idl_sources.specs.Details.{details_over}
use Rattle.idl_project.specs.Details.{details_of}
use Rattle.idl_inputs.specs.Project.{Project, is_root}
use Rattle.idl_project.specs.UpToDate.{AreKept, IsKept, is_faulty_of, listing_of}
use Rattle.idl_sources.specs.declared.compile.CompiledRoot.{CompiledRoot}
use Rattle.idl_project.specs.declared.kept_root.KeptRoot.{KeptRoot}

abbrev pub kept_details : KeptRoot → Details
kept_details kept = details kept.result.value.out

-- what is kept of a root expands to what has the root's details
details-kept : (bank : RootKey → Option RootAnswer) (name : List ℕ) (kept : KeptRoot) → IsKept bank (name, kept) → kept_details kept ≡ details_over bank name
details-kept bank name kept is =
    ap (λ (left : List Event × List (RootKey × Option RootAnswer)). details left.0) is.over ∙ ap (details_over bank) is.text

-- of roots that are kept a name is found with the details of compiling it, and no other name is found
pub lookup-detailed : (bank : RootKey → Option RootAnswer) (held : List (List ℕ × KeptRoot)) (name : List ℕ) → AreKept bank held
    → option_map kept_details (lookup (bytes_eq name) held) ≡ (if list_any (bytes_eq name) (keys_of held) then Some (details_over bank name) else None)
lookup-detailed bank [] name h = refl
lookup-detailed bank (e ∷ es) name h = by (bytes_eq name e.0) refl (lookup-detailed bank es name (All-tail (λ (root : List ℕ × KeptRoot). IsKept bank root) e es h))
  where
    by : (b : Bool) → bytes_eq name e.0 ≡ b
        → option_map kept_details (lookup (bytes_eq name) es) ≡ (if list_any (bytes_eq name) (keys_of es) then Some (details_over bank name) else None)
        → option_map kept_details (cond b (Some e.1) (lookup (bytes_eq name) es))
        ≡ (if (b || list_any (bytes_eq name) (keys_of es)) then Some (details_over bank name) else None)
    by true same rest =
        let kept : IsKept bank e = All-head (λ (root : List ℕ × KeptRoot). IsKept bank root) e es h in
        ap Some (details-kept bank e.0 e.1 kept ∙ ap (details_over bank) (sym ((bytes_decides name e.0).0 same)))
    by false other rest = rest

abbrev pub kept_expansion : KeptRoot → List Event
kept_expansion kept = kept.result.value.out

-- what is kept of a root is what the root expands to
expansion-kept : (bank : RootKey → Option RootAnswer) (name : List ℕ) (kept : KeptRoot) → IsKept bank (name, kept) → kept_expansion kept ≡ (expanded name bank).0
expansion-kept bank name kept is =
    ap (λ (left : List Event × List (RootKey × Option RootAnswer)). left.0) is.over ∙ ap (λ (text : List ℕ). (expanded text bank).0) is.text

-- of roots that are kept a name is found with what it expands to, and no other name is found
pub lookup-expanded : (bank : RootKey → Option RootAnswer) (held : List (List ℕ × KeptRoot)) (name : List ℕ) → AreKept bank held
    → option_map kept_expansion (lookup (bytes_eq name) held) ≡ (if list_any (bytes_eq name) (keys_of held) then Some (expanded name bank).0 else None)
lookup-expanded bank [] name h = refl
lookup-expanded bank (e ∷ es) name h = by (bytes_eq name e.0) refl (lookup-expanded bank es name (All-tail (λ (root : List ℕ × KeptRoot). IsKept bank root) e es h))
  where
    by : (b : Bool) → bytes_eq name e.0 ≡ b
        → option_map kept_expansion (lookup (bytes_eq name) es) ≡ (if list_any (bytes_eq name) (keys_of es) then Some (expanded name bank).0 else None)
        → option_map kept_expansion (cond b (Some e.1) (lookup (bytes_eq name) es))
        ≡ (if (b || list_any (bytes_eq name) (keys_of es)) then Some (expanded name bank).0 else None)
    by true same rest =
        let kept : IsKept bank e = All-head (λ (root : List ℕ × KeptRoot). IsKept bank root) e es h in
        ap Some (expansion-kept bank e.0 e.1 kept ∙ ap (λ (text : List ℕ). (expanded text bank).0) (sym ((bytes_decides name e.0).0 same)))
    by false other rest = rest

-- the listing of a root without an error is what its details are printed as
module _ (law : (end : Place) (events : List Event) → (compile end events).is_faulty ≡ false → (compile end events).listing ≡ printed (details events)) where
  pub listing-over : (bank : RootKey → Option RootAnswer) (name : List ℕ) → (compile_over bank name).rows.is_faulty ≡ false → (compile_over bank name).rows.listing ≡ printed (details_over bank name)
  unfolding compile_over
  listing-over bank name sound = law (end_of bank name) (expanded name bank).0 sound

  listing-answered : (b : Bool) (root : CompiledRoot) (told : Details) → (root.rows.is_faulty ≡ false → root.rows.listing ≡ printed told)
      → option_map (λ (r : CompiledRoot). r.rows.is_faulty) (cond b (Some root) None) ≡ Some false
      → option_map (λ (r : CompiledRoot). r.rows.listing) (cond b (Some root) None) ≡ option_map printed (cond b (Some told) None)
  listing-answered true root told h sound = ap Some (h cc)
  listing-answered false root told h sound = cc

  pub listing-of : (project : Project) (name : List ℕ) → is_faulty_of project name ≡ Some false → listing_of project name ≡ option_map printed (details_of project name)
  listing-of project name sound =
      let bank = bank_of project.inputs in
      listing-answered (is_root project name) (compile_over bank name) (details_over bank name) (listing-over bank name) sound
