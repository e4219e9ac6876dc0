-- What is answered of a root is what its units come to, and nothing else is.
use Rattle.std.proofs.Common.{◌≡◌, ◌∙◌, ◌<◌, ◌^◌, ◌||◌, ℕ, All, Bool, true, false, cond, List, [], ◌∷◌, length, Option, None, Some, Bor, refl, subst, sym, ap}
use Rattle.std.specs.Prelude.{◌↔◌}
use Rattle.std.proofs.lemmas.Bool.{false≢true}
use Rattle.std.proofs.lemmas.List.Elements.{All-head, All-tail}
use Rattle.std.specs.Cmp.Lexicographic.{bytes_decides}
use Rattle.std.specs.List.{enumerate_from, list_any}
use Rattle.std.specs.Option.{IfSome, option_copied}
use Rattle.std.specs.Str.{bytes_eq}
use Rattle.idl_event.specs.Apart.{tokens_in}
use Rattle.idl_event.specs.declared.asked.key.RootAnswer.{RootAnswer}
use Rattle.idl_event.specs.declared.asked.key.RootKey.{RootKey}
use Rattle.idl_event.specs.declared.told.event.Event.{Event}
use Rattle.idl_fault.specs.declared.place.Place.{Place}
use Rattle.idl_inputs.specs.Bank.{bank_of}
use Rattle.idl_inputs.specs.Project.{Project, is_root}
use Rattle.idl_prep.specs.Root.{expanded}
use Rattle.idl_project.specs.Compiled.{CompilesOver}
use Rattle.idl_project.specs.UpToDate.{compiled_of}
use Rattle.idl_sources.specs.Compile.{compile_over, end_of}
use Rattle.idl_sources.specs.declared.compile.CompiledRoot.{CompiledRoot}
use Rattle.idl_sources.specs.idl_root.Compile.{compile}
use Rattle.idl_sources.specs.idl_root.Compiled.{CompilesTo}
use Rattle.idl_sources.specs.idl_root.declared.compiling.compiled.Compiled.{Compiled}

-- what holds of all roots holds of one
pub root-among : (P : List ℕ → Type 0) (roots : List (List ℕ)) (name : List ℕ) → All P roots → list_any (bytes_eq name) roots ≡ true → P name
root-among P [] name all h = absurd (false≢true h)
root-among P (r ∷ roots) name all h = by (bytes_eq name r) refl (root-among P roots name (All-tail P r roots all)) h
  where
    by : (b : Bool) → bytes_eq name r ≡ b → (list_any (bytes_eq name) roots ≡ true → P name) → (b || list_any (bytes_eq name) roots) ≡ true → P name
    by true same rest h = subst P (sym ((bytes_decides name r).0 same)) (All-head P r roots all)
    by false other rest h = rest h

some-same : {A : Type 0} (x y : A) → ◌≡◌ {A = Option A} (Some x) (Some y) → x ≡ y
some-same x y h = cc

none-some : {A : Type 0} (x : A) → ◌≡◌ {A = Option A} None (Some x) → ⊥
none-some x h = cc

-- the tokens of events are counted that are found
abbrev pub IsSmall : Bor (List Event) → Type 0
IsSmall e = length (tokens_in (enumerate_from 0 e.now)) < 2 ^ 64

pub found-small : (found : Option (Bor (List Event))) (events : List Event) → option_copied found ≡ Some events → IfSome found IsSmall
    → length (tokens_in (enumerate_from 0 events)) < 2 ^ 64
found-small None events is small = absurd (none-some events is)
found-small (Some e) events is small = subst (λ (es : List Event). length (tokens_in (enumerate_from 0 es)) < 2 ^ 64) (some-same e.now events is) small

-- what the law of a root says of its events
abbrev pub Law : List Event → Type 0
Law events = (end : Place) (compiled : Compiled) → CompilesTo end events compiled ↔ (compiled ≡ compile end events)

module _ (bank : RootKey → Option RootAnswer) (name : List ℕ) (compiled : CompiledRoot) (law : Law (expanded name bank).0) where
  over-root : CompilesOver bank name compiled → compiled ≡ compile_over bank name
  unfolding compile_over
  over-root h =
      let rows : compiled.rows ≡ compile (end_of bank name) (expanded name bank).0 = (law (end_of bank name) compiled.rows).0 h.rows in
      λ i. record { rows = rows i; absent = h.absent i }

  root-over : compiled ≡ compile_over bank name → CompilesOver bank name compiled
  unfolding compile_over
  root-over is = record {
    rows = (law (end_of bank name) compiled.rows).1 (ap (λ (r : CompiledRoot). r.rows) is);
    absent = ap (λ (r : CompiledRoot). r.absent) is;
  }

-- of a name that is that of a root, and of another one
pub answered : (project : Project) (name : List ℕ) (compiled : CompiledRoot) → (is_root project name ≡ true → Law (expanded name (bank_of project.inputs)).0)
    → (compiled_of project name ≡ Some compiled) ↔ ((is_root project name ≡ true) × CompilesOver (bank_of project.inputs) name compiled)
answered project name compiled law = by (is_root project name) refl
  where
    by : (b : Bool) → is_root project name ≡ b
        → (◌≡◌ {A = Option CompiledRoot} (cond b (Some (compile_over (bank_of project.inputs) name)) None) (Some compiled)) ↔ ((is_root project name ≡ true) × CompilesOver (bank_of project.inputs) name compiled)
    by true there = (
      λ h. (there, root-over (bank_of project.inputs) name compiled (law there) (sym (some-same (compile_over (bank_of project.inputs) name) compiled h))),
      λ p. ap Some (sym (over-root (bank_of project.inputs) name compiled (law there) p.1)),
    )
    by false other = (λ h. absurd (none-some compiled h), λ p. absurd (false≢true (sym other ∙ p.0)))
