-- The faults of a root's units are all told: each token of a unit stands somewhere.
use Rattle.std.proofs.Common.{◌≡◌, ◌≢◌, ℕ, zero, suc, ◌<◌, Bool, List, [], ◌∷◌, ◌++◌, length, Option, Some, slice_get, flat_map, refl, ap, ◌∙◌, arith}
use Rattle.std.specs.List.{AllByRecursion, enumerate_from}
use Rattle.idl_root_blocks.specs.idl_check.walk.Verdict.{verdict, verdict_over}
use Rattle.idl_root_blocks.specs.idl_check.declared.walk.verdict.Verdict.{Verdict}
use Rattle.idl_event.specs.Apart.{Numbered, sites_in, tokens_in}
use Rattle.idl_event.specs.declared.told.event.Event.{Event}
use Rattle.idl_event.specs.declared.told.event.Event.TheVariants as event
use Rattle.idl_event.specs.declared.told.site.Site.{Site}
use Rattle.idl_lex.specs.tokens.Tokens.{Token}
use Rattle.idl_memo.specs.Query.{outcome}
use Rattle.idl_finding.specs.Findings.{fault_finding, finding_at, site_of, tokens_of}
use Rattle.idl_root.specs.Judged.{judged_after}
use Rattle.idl_root.specs.Told.{IsTold}
use Rattle.idl_env.specs.Facts.{UnitFacts, answers, boundary}
use Rattle.idl_env.specs.declared.additions.addition.Step.TheVariants.{Enters, Leaves}
use Rattle.idl_env.specs.declared.answering.answer.Answer.{Answer}
use Rattle.idl_env.specs.declared.keys.key.Key.{Key}
use Rattle.idl_env.specs.Turns.{most_turns}
use Rattle.idl_unit.specs.Cut.{parts}
use Rattle.idl_unit.specs.TokenRules.{first}
use Rattle.idl_unit.specs.Units.{spelled, stretch_ends, stretch_units, unit_in, units_of}
use Rattle.idl_unit.specs.declared.fault.Fault.{Fault}
use Rattle.idl_unit.specs.declared.unit.Unit.{Unit as RootUnit}
use Rattle.idl_unit.specs.declared.unit.Unit.TheVariants.{Spelled, Entered, Left, End}
use Rattle.idl_unit.specs.declared.unit.UnitText.{UnitText}
use Rattle.idl_unit.specs.declared.unit.UnitText.TheVariants.{Tokens, Pragma}

-- each token has a site, and the word of a pragma has one
abbrev pub AreSited : UnitText → List Site → Type 0
AreSited (Tokens tokens) sites = (tokens ≢ []) × (length tokens ≡ length sites)
AreSited (Pragma tokens inside) sites = 1 ≡ length sites

abbrev pub IsSited : RootUnit → Type 0
IsSited (Spelled text sites) = AreSited text sites
IsSited other = Unit {0}

sites-len : (events : List Numbered) → length (tokens_in events) ≡ length (sites_in events)
sites-len [] = refl
sites-len ((n, event.Emitted place token) ∷ events) = ap suc (sites-len events)
sites-len ((n, event.Entered file) ∷ events) = sites-len events
sites-len ((n, event.Left file) ∷ events) = sites-len events
sites-len ((n, event.Pragma place tokens) ∷ events) = sites-len events
sites-len ((n, event.Fault place code text) ∷ events) = sites-len events

spelled-sited : (tokens : List Token) (sites : List Site) → length tokens ≡ length sites → AllByRecursion IsSited (spelled tokens sites)
spelled-sited [] sites e = tt
spelled-sited (t ∷ ts) sites e = ((λ h. absurd (cc), e), tt)

others-sited : (inside : Bool) (events : List Numbered) → AllByRecursion IsSited (flat_map (unit_in inside) events)
others-sited inside [] = tt
others-sited inside ((n, event.Emitted place token) ∷ events) = others-sited inside events
others-sited inside ((n, event.Entered file) ∷ events) = (tt, others-sited inside events)
others-sited inside ((n, event.Left file) ∷ events) = (tt, others-sited inside events)
others-sited inside ((n, event.Pragma place tokens) ∷ events) = (refl, others-sited inside events)
others-sited inside ((n, event.Fault place code text) ∷ events) = others-sited inside events

append-sited : (a b : List RootUnit) → AllByRecursion IsSited a → AllByRecursion IsSited b → AllByRecursion IsSited (a ++ b)
append-sited [] b p q = q
append-sited (u ∷ a) b p q = (p.0, append-sited a b p.1 q)

stretches-sited : (stretches : List (List Numbered)) → AllByRecursion IsSited (flat_map stretch_units stretches)
stretches-sited [] = tt
stretches-sited (stretch ∷ stretches) =
    append-sited (stretch_units stretch) (flat_map stretch_units stretches)
    (append-sited (spelled (tokens_in stretch) (sites_in stretch)) _ (spelled-sited (tokens_in stretch) (sites_in stretch) (sites-len stretch)) (others-sited _ stretch))
    (stretches-sited stretches)

pub units-sited : (events : List Event) → AllByRecursion IsSited (units_of events)
unfolding units_of
units-sited events = append-sited _ (End ∷ []) (stretches-sited (parts stretch_ends (enumerate_from 0 events))) (tt, tt)

pub item-there : {X : Type 0} (xs : List X) (i : ℕ) → i < length xs → (x : X) × (slice_get xs i ≡ Some x)
item-there [] i lt = absurd (omega arith)
item-there (x ∷ xs) zero lt = (x, refl)
item-there (x ∷ xs) (suc i) lt = item-there xs i (omega arith)

first-there : (sites : List Site) → 1 ≡ length sites → (site : Site) × (first sites ≡ Some site)
first-there [] e = absurd (omega arith)
first-there (s ∷ sites) e = (s, refl)

told-at : (text : UnitText) (sites : List Site) (v : Verdict) → ((fault : Fault) → v.fault ≡ Some fault → (site : Site) × (site_of text sites fault.index ≡ Some site))
    → IsTold (record { text = text; sites = sites; verdict = v })
told-at text sites v there fault is =
    let token = slice_get (tokens_of text) fault.index in
    (_, (ap (fault_finding text sites) is ∙ ap (λ s. finding_at fault.code s token) (there fault is).1, (refl, refl)))

module _
    (numbered : (turns : ℕ) (tokens : List Token) (answers : Key → Option Answer) (fault : Fault) → tokens ≢ []
    → (outcome (verdict turns (Tokens tokens)) answers).fault ≡ Some fault → fault.index < length tokens)
  where
    there : (facts : List UnitFacts) (text : UnitText) (sites : List Site) → AreSited text sites → (fault : Fault) → (verdict_over facts text).fault ≡ Some fault
        → (site : Site) × (site_of text sites fault.index ≡ Some site)
    there facts (Tokens tokens) sites are fault is = item-there sites fault.index (omega (arith, are.1, numbered most_turns tokens (answers facts) fault are.0 is))
    there facts (Pragma tokens inside) sites are fault is = first-there sites are

    judged-told : (facts : List UnitFacts) (units : List RootUnit) → AllByRecursion IsSited units → AllByRecursion IsTold (judged_after facts units)
    unfolding judged_after
    judged-told facts [] are = tt
    judged-told facts (Spelled text sites ∷ units) are =
        (told-at text sites (verdict_over facts text) (there facts text sites are.0), judged-told (facts ++ (verdict_over facts text).writes ∷ []) units are.1)
    judged-told facts (Entered file inside ∷ units) are = judged-told (facts ++ boundary Enters ∷ []) units are.1
    judged-told facts (Left file inside ∷ units) are = judged-told (facts ++ boundary Leaves ∷ []) units are.1
    judged-told facts (End ∷ units) are = judged-told (facts ++ []) units are.1

    pub units-told : (events : List Event) → AllByRecursion IsTold (judged_after [] (units_of events))
    units-told events = judged-told [] (units_of events) (units-sited events)
