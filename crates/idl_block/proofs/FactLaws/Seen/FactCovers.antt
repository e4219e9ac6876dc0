-- What is kept by the facts of a unit, or of a file boundary, behind those of a block.
use Rattle.std.proofs.Common.{◌≡◌, Bool, true, false, cond, ◌||◌, not, List, [], ◌∷◌, Option, Some, refl, sym, ap, ◌∙◌, subst}
use Rattle.std.specs.Prelude.{All, Contains, is_some}
use Rattle.idl_entity.specs.declared.entity.Entity.{Entity}
use Rattle.idl_entity.specs.declared.kind.Kind.TheVariants.{Interface}
use Rattle.idl_env.specs.Facts.{UnitFacts, World, addition_at, after, after_step, entity_key, is_stopped, key_of, unstopped, with_additions}
use Rattle.idl_env.specs.Written.{adds_at, steps_at, writes_at}
use Rattle.idl_env.specs.declared.additions.addition.Addition.{Addition}
use Rattle.idl_env.specs.declared.additions.addition.Addition.TheVariants.{Declares}
use Rattle.idl_env.specs.declared.additions.addition.Step.{Step}
use Rattle.idl_env.specs.declared.additions.addition.Step.TheVariants.{Stays, Opens, OpensNameless, Closes, Prefixes, Enters, Leaves}
use Rattle.idl_env.specs.declared.answering.answer.Answer.{Answer}
use Rattle.idl_env.specs.declared.keys.key.Key.{Key}
use Rattle.idl_env.specs.declared.keys.key.Key.TheVariants.{Cursor, Opened, Nameless}
use Rattle.idl_env.specs.keys.Key.{key_eq}
use Rattle.idl_block.specs.facts.Answered.{AskedWorld, IsClosing, AreNamedAt, behind_one, stepped, with_added}
use Rattle.idl_block.specs.facts.Beneath.{AreTwo, IsThere}
use Rattle.idl_block.specs.facts.Known.{IsInside, IsTold}
use Rattle.idl_block.proofs.FactLaws.Seen.AddedSees.{IsPlain, at-cons}
use Rattle.idl_block.proofs.FactLaws.Seen.ClosedCovers.{closes-covers}
use Rattle.idl_block.proofs.FactLaws.ClosingStands.{step-stands}
use Rattle.idl_block.proofs.FactLaws.Seen.Covers.{Covers, covers-added, plain-stays}
use Rattle.idl_block.proofs.FactLaws.Seen.Sees.{Sees}
use Rattle.idl_block.proofs.FactLaws.StandingLaws.{Stands, added-stands}
use Rattle.idl_block.proofs.FactLaws.Seen.SteppedCovers.{enters-covers, leaves-covers, nameless-covers, opens-covers, prefixes-covers, stays-covers}

or_assoc : (a b c : Bool) → ((a || b) || c) ≡ (a || (b || c))
or_assoc true b c = refl
or_assoc false b c = refl

module _ (bank : Key → Option Answer) (seen : List Key) where
  -- what a step looks at was seen
  abbrev pub StepSeen : AskedWorld → (Key → Bool) → Step → Type 0
  StepSeen a written (Opens path kind) =
      Sees bank seen (a.answers Cursor) × (Sees bank seen (a.answers (Opened path)) × (kind ≡ Interface → written (entity_key path) ≡ true))
  StepSeen a written (OpensNameless kind) = Sees bank seen (a.answers Cursor) × Sees bank seen (a.answers Nameless)
  StepSeen a written Closes = Sees bank seen (a.answers Cursor)
  StepSeen a written (Prefixes text) = Sees bank seen (a.answers Cursor)
  StepSeen a written other = Unit {0}

  step-covers : (a : AskedWorld) (w : World) (written : Key → Bool) → Covers bank seen a w written → Stands bank a w → (step : Step) → AreNamedAt w.answers step → IsClosing w.answers step
      → IsInside w step → StepSeen a written step → Covers bank seen (stepped a step) (after_step w step) (λ k. written k || steps_at w step k)
  step-covers a w written c s Stays named closing inside there = stays-covers bank seen a w written c
  step-covers a w written c s (Opens path kind) named closing inside there = opens-covers bank seen a w written c there.0 path kind there.1.0 there.1.1 named
  step-covers a w written c s (OpensNameless kind) named closing inside there = nameless-covers bank seen a w written c there.0 kind s there.1
  step-covers a w written c s Closes named closing inside there =
      closes-covers bank seen a w written c s named there (subst IsThere (sym s.opened) inside) closing.0 closing.1.0 closing.1.1 closing.1.2
  step-covers a w written c s (Prefixes text) named closing inside there = prefixes-covers bank seen a w written c text there
  step-covers a w written c s Enters named closing inside there = enters-covers bank seen a w written c
  step-covers a w written c s Leaves named closing inside there = leaves-covers bank seen a w written c (subst AreTwo (sym s.entered) inside)

  module _ (a : AskedWorld) (w : World) (written : Key → Bool) (c : Covers bank seen a w written) (s : Stands bank a w) (f : UnitFacts) (told : IsTold w f)
      (known : (e : Entity) → Contains f.additions (Declares e) → Sees bank seen (a.answers (entity_key e.path)) × All (λ b. Sees bank seen (a.answers (entity_key b))) e.bases)
      (there : StepSeen a (λ k. written k || adds_at w f k) f.step) where
    abbrev a1 : AskedWorld
    a1 = with_added f.additions a

    abbrev w1 : World
    w1 = with_additions f.additions w

    abbrev written1 : Key → Bool
    written1 k = written k || adds_at w f k

    stay : (k : Key) → IsPlain k → Sees bank seen (a.answers k) → Sees bank seen (a1.answers k)
    stay k plain sees = plain-stays bank seen a w written c s f.additions told.proper.stops known seen k plain sees

    step-stays : (step : Step) → StepSeen a written1 step → StepSeen a1 written1 step
    step-stays Stays h = tt
    step-stays (Opens path kind) h = (stay Cursor tt h.0, (stay (Opened path) tt h.1.0, h.1.1))
    step-stays (OpensNameless kind) h = (stay Cursor tt h.0, stay Nameless tt h.1)
    step-stays Closes h = stay Cursor tt h
    step-stays (Prefixes text) h = stay Cursor tt h
    step-stays Enters h = tt
    step-stays Leaves h = tt

    inside-stays : (step : Step) → IsInside w step → IsInside w1 step
    inside-stays Closes h = h
    inside-stays Leaves h = h
    inside-stays other h = tt

    stands1 : Stands bank a1 w1
    stands1 = added-stands bank a w s f.additions told.proper.stops

    pub stands-fact : Stands bank (behind_one a f) (after w f)
    stands-fact = step-stands bank a1 w1 stands1 f.step told.proper.named told.proper.closing

    pub covers-fact : Covers bank seen (behind_one a f) (after w f) (λ k. written k || writes_at w f k)
    covers-fact =
        subst (λ g. Covers bank seen (behind_one a f) (after w f) g) (λ i k. or_assoc (written k) (adds_at w f k) (steps_at w1 f.step k) i)
        (step-covers a1 w1 written1 (covers-added bank seen a w written c s f.additions told.proper.stops known) stands1 f.step told.proper.named told.proper.closing
        (inside-stays f.step told.inside) (step-stays f.step there))

-- what is declared at a key is not stopped
pub declared-adds : (answers : Key → Option Answer) (k : Key) (e : Entity) (additions : List Addition) → addition_at additions k ≡ Some (Declares e)
    → is_some (addition_at (unstopped answers additions) k) ≡ true
declared-adds answers k e [] found = cc
declared-adds answers k e (x ∷ additions) found = by (declared-adds answers k e additions) (key_eq k (key_of x)) (is_stopped answers x) refl refl found
  where
    by : (addition_at additions k ≡ Some (Declares e) → is_some (addition_at (unstopped answers additions) k) ≡ true)
        → (b t : Bool) → key_eq k (key_of x) ≡ b → is_stopped answers x ≡ t → cond b (Some x) (addition_at additions k) ≡ Some (Declares e)
        → is_some (addition_at (cond (not (is_stopped answers x)) (x ∷ unstopped answers additions) (unstopped answers additions)) k) ≡ true
    by later b true is stops found =
        ap (λ t. is_some (addition_at (cond (not t) (x ∷ unstopped answers additions) (unstopped answers additions)) k)) stops
        ∙ other b found
      where
        other : (b : Bool) → cond b (Some x) (addition_at additions k) ≡ Some (Declares e) → is_some (addition_at (unstopped answers additions) k) ≡ true
        other true found =
            let same : x ≡ Declares e = cc in
            let never : true ≡ false = sym stops ∙ ap (is_stopped answers) same in cc
        other false found = later found
    by later true false is stops found =
        ap (λ t. is_some (addition_at (cond (not t) (x ∷ unstopped answers additions) (unstopped answers additions)) k)) stops
        ∙ ap is_some (at-cons x (unstopped answers additions) k true false is)
    by later false false is stops found =
        ap (λ t. is_some (addition_at (cond (not t) (x ∷ unstopped answers additions) (unstopped answers additions)) k)) stops
        ∙ ap is_some (at-cons x (unstopped answers additions) k false false is)
        ∙ later found
