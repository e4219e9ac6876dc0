-- What was kept of a root, beside the facts of the units that stand there now.
use Rattle.std.specs.Prelude.{◌≡◌, ℕ, Bool, true, false, List, [], ◌∷◌, ◌++◌, Option, Some, All, Contains, IfSome, drop, map}
use Rattle.idl_env.specs.Facts.{UnitFacts, World, answers, boundary, world}
use Rattle.idl_env.specs.Outside.{WorldsAgreeAround, WorldsAgreeOutside, looked_at_by}
use Rattle.idl_env.specs.declared.additions.addition.Step.TheVariants.{Enters, Leaves, Stays}
use Rattle.idl_env.specs.declared.keys.key.Key.{Key}
use Rattle.idl_env.specs.keys.Key.{key_digest}
use Rattle.idl_kept.specs.Texts.{DeclarationResult, Texts}
use Rattle.idl_memo.specs.Fresh.{Place}
use Rattle.idl_memo.specs.Kept.{Kept, SomeAlikeAt}
use Rattle.idl_store.specs.Obtained.{IsObtained}
use Rattle.idl_store.specs.Stored.{Stored, grown, list_at, result_at, results_in}
use Rattle.idl_memo.specs.declared.meter.Meter.{Meter}
use Rattle.idl_memo.specs.declared.task.TaskKind.{TaskKind}
use Rattle.idl_memo.specs.declared.task.TaskKind.TheVariants.{Check, Print}
use Rattle.idl_root.specs.Changed.{ShareNone}
use Rattle.idl_root.specs.Places.{EntryPlace}
use Rattle.idl_root_blocks.specs.Asking.{AreNoted as HaveNoted, Opened}
use Rattle.idl_root_blocks.specs.Places.{DeclarationPlace, declaration_result, declarations_over}
use Rattle.idl_root_blocks.specs.Units.{text_of}
use Rattle.idl_root.specs.Results.{EntryResult, entry_result, marks_of}
use Rattle.idl_root.specs.declared.kept.course.Course.{Course}
use Rattle.idl_root.specs.declared.kept.following.Following.{Following}
use Rattle.idl_root.specs.declared.kept.keeping.Keeping.{Keeping}
use Rattle.idl_root.specs.declared.kept.marks.Mark.{Mark}
use Rattle.idl_root.specs.declared.kept.marks.Mark.TheVariants as mark
use Rattle.idl_root.specs.declared.kept.printing.Printing.{Printing}
use Rattle.idl_root.specs.declared.kept.reprinting.Reprinting.{Reprinting}
use Rattle.idl_unit.specs.declared.unit.Unit.{Unit as RootUnit}
use Rattle.idl_unit.specs.declared.unit.UnitText.{UnitText}

-- each of these keys has its digest among these
abbrev pub AreNoted : List ℕ → List Key → Type 0
AreNoted digests keys = All (λ key. Contains digests (key_digest key)) keys

-- two worlds agree outside keys, and where they may have other operations in the innermost scope
-- they do so around it
abbrev pub WorldsAgree : Bool → List Key → World → World → Type 0
WorldsAgree false keys w other = WorldsAgreeOutside keys w other
WorldsAgree true keys w other = WorldsAgreeAround keys w other

-- these facts and those come to worlds that agree so but at some keys, whose digests are among these
pub record AgreeBut (around : Bool) (changed : List ℕ) (before facts : List UnitFacts)
    : Type 0 where
  pub keys : List Key
  pub noted : AreNoted changed keys
  pub agree : WorldsAgree around keys (world before) (world facts)

-- what units of these marks and these results added
abbrev pub added_by : List Mark → List DeclarationResult → List UnitFacts
added_by [] results = []
added_by (mark.Judged ∷ marks) [] = []
added_by (mark.Judged ∷ marks) (k ∷ results) = k.out.writes ∷ added_by marks results
added_by (mark.Entered inside ∷ marks) results = boundary Enters ∷ added_by marks results
added_by (mark.Left inside ∷ marks) results = boundary Leaves ∷ added_by marks results

-- it is a file boundary
abbrev pub IsBoundary : Mark → Type 0
IsBoundary mark.Judged = ⊥
IsBoundary (mark.Entered inside) = Unit {0}
IsBoundary (mark.Left inside) = Unit {0}

-- these marks and results are those of units that stood behind these facts
pub record WereThere (before : List UnitFacts) (marks : List Mark)
    (results : List DeclarationResult)
    : Type 0 where
  pub units : List RootUnit
  pub marks_are : marks ≡ marks_of units
  pub results_are : results ≡ map declaration_result (declarations_over before (text_of units))

-- the results of the units that are still to come, in the lists that are kept
abbrev pub results_from : List (List DeclarationResult) → Course → List DeclarationResult
results_from lists course = drop course.place (list_at lists course.list)

-- what these units added
abbrev pub facts_of : List (List DeclarationResult) → Course → List UnitFacts
facts_of lists course = added_by course.marks.now (results_from lists course)

-- the first of them has tokens, and this is kept of it
pub record IsFirst (lists : List (List DeclarationResult)) (k : DeclarationResult) (course : Course)
    : Type 0 where
  pub marks : List Mark
  pub results : List DeclarationResult
  pub marks_are : course.marks.now ≡ mark.Judged ∷ marks
  pub results_are : results_from lists course ≡ k ∷ results

-- the first of them added these facts
abbrev pub IsNext : List (List DeclarationResult) → UnitFacts → Course → Type 0
IsNext lists f course = (rest : List UnitFacts) × (facts_of lists course ≡ f ∷ rest)

-- these facts were added first, and then those of the units behind
pub record IsPassed (f : UnitFacts) (marks : List Mark) (results : List DeclarationResult)
    (after : List Mark) (behind : List DeclarationResult)
    : Type 0 where
  pub added : added_by marks results ≡ f ∷ added_by after behind
  pub there : (before : List UnitFacts) → WereThere before marks results
      → WereThere (before ++ f ∷ []) after behind

-- the course behind the first unit of another, which added these facts
pub record IsBehind (lists : List (List DeclarationResult)) (f : UnitFacts) (course next : Course)
    : Type 0 where
  pub list : next.list ≡ course.list
  pub passed : IsPassed f course.marks.now (results_from lists course) next.marks.now
      (results_from lists next)

-- the units of these marks and results stood behind other facts, which with theirs are all of
-- before, and which agree with these here but at keys of these digests
pub record IsBeside
    (all : List UnitFacts) (around : Bool) (changed : List ℕ) (marks : List Mark)
    (results : List DeclarationResult) (facts : List UnitFacts)
    : Type 0 where
  pub before : List UnitFacts
  pub whole : before ++ added_by marks results ≡ all
  pub units : WereThere before marks results
  pub but : AgreeBut around changed before facts

-- the same of what is followed, where the root's units were these when it was compiled last
pub record IsFollowed (lists : List (List DeclarationResult)) (earlier : Course)
    (following : Following) (facts : List UnitFacts)
    : Type 0 where
  pub list : following.course.list ≡ earlier.list
  pub beside : IsBeside (facts_of lists earlier) following.is_around following.changed
      following.course.marks.now (results_from lists following.course) facts

-- what stands at this place is kept of the next of the units that are followed, and is the result
-- of this text
pub record IsAgain (stored : Stored DeclarationResult) (following : Following) (text : UnitText)
    (place : ℕ × ℕ)
    : Type 0 where
  pub result : DeclarationResult
  pub found : result_at stored place.0 place.1 ≡ Some result
  pub next : IsNext stored.lists result.out.writes following.course
  pub again : (earlier : Course) (facts : List UnitFacts)
      → IsFollowed stored.lists earlier following facts
      → result ≡ declaration_result (text, answers facts)

-- facts look at no key of these digests
abbrev pub LookElsewhere : List UnitFacts → List ℕ → UnitFacts → Type 0
LookElsewhere facts changed f =
    (looked : List ℕ) × (AreNoted looked (looked_at_by (world facts) f) × ShareNone looked changed)

-- facts that are added to both keep them so: they look at no such key, and where the innermost scope
-- may have other operations they change no open scope
abbrev pub StayAlike : Bool → List UnitFacts → List ℕ → UnitFacts → Type 0
StayAlike false facts changed f = LookElsewhere facts changed f
StayAlike true facts changed f = (f.step ≡ Stays) × LookElsewhere facts changed f

-- of what is kept of texts nothing differs but what is kept of units
abbrev pub UnitsOnly : Texts → Texts → Type 0
UnitsOnly old new = new ≡ record old { declarations = new.declarations }

-- a result that is kept is taken again: the one of this place, which is alike there
pub record IsTakenAgain {K V T O : Type 0} (place : Place K V T) (here : Kept K V T O)
    (old new : Stored (Kept K V T O)) (result : Kept K V T O)
    : Type 0 where
  pub result_is : result ≡ here
  pub new_is : new ≡ grown old (here ∷ [])
  pub alike : SomeAlikeAt place (results_in old)

-- the result of a place is obtained, and goes last into what is made of a root
pub record IsObtainedLast {K V T O : Type 0} (kind : TaskKind) (place : Place K V T)
    (here : Kept K V T O) (old new : Stored (Kept K V T O)) (before after : Meter)
    (result : Kept K V T O) : Type 0 where
  pub result_is : result ≡ here
  pub new_is : new ≡ grown old (here ∷ [])
  pub obtained : IsObtained place here kind (results_in old) before after

-- that of a declaration, and that of an entry
abbrev pub IsDeclarationLast : DeclarationPlace → Stored DeclarationResult
    → Stored DeclarationResult → Meter → Meter → DeclarationResult → Type 0
IsDeclarationLast place old new before after result =
    IsObtainedLast Check place (declaration_result place) old new before after result

abbrev pub IsEntryLast : EntryPlace → Stored EntryResult → Stored EntryResult → Meter → Meter
    → EntryResult → Type 0
IsEntryLast place old new before after result =
    IsObtainedLast Print place (entry_result place) old new before after result

-- each of these entries is that of its name over these facts
abbrev pub ArePrinted : List UnitFacts → List EntryResult → Type 0
ArePrinted before entries = All (λ k. k ≡ entry_result (k.text, answers before)) entries

-- the entries that are kept are over facts that agree with these here but at keys of its digests
pub record AreBeside (lists : List (List EntryResult)) (reprinting : Reprinting)
    (facts : List UnitFacts)
    : Type 0 where
  pub before : List UnitFacts
  pub entries : ArePrinted before (list_at lists reprinting.list)
  pub but : AgreeBut true reprinting.changed before facts

-- what stands at this place is the entry of this path, over facts beside which they are
pub record IsPrintedAt (stored : Stored EntryResult) (reprinting : Reprinting)
    (path : List (List ℕ)) (place : ℕ × ℕ)
    : Type 0 where
  pub result : EntryResult
  pub found : result_at stored place.0 place.1 ≡ Some result
  pub again : (facts : List UnitFacts) → AreBeside stored.lists reprinting facts
      → result ≡ entry_result (path, answers facts)

-- what is kept of the names, if it tells anything, beside these facts
abbrev pub IsPrinting : List (List EntryResult) → Printing → List UnitFacts → Type 0
IsPrinting lists printing facts = IfSome printing.reprinting (λ r. AreBeside lists r facts)

-- what is followed, if anything is, beside the facts of the units so far
abbrev pub IsFollowing : List (List DeclarationResult) → Keeping → List UnitFacts → Type 0
IsFollowing lists keeping facts =
    IfSome keeping.following (λ f. IsFollowed lists keeping.earlier f facts)

-- what may be followed is beside these facts, and open blocks have noted rightly behind them
pub record AreInStep (lists : List (List DeclarationResult)) (earlier : Course)
    (following : Option Following) (opened : Opened) (facts : List UnitFacts)
    : Type 0 where
  pub follows : IfSome following (λ f. IsFollowed lists earlier f facts)
  pub noted : HaveNoted facts opened

-- the judging of a root has come as far as these facts
abbrev pub IsKeeping : List (List DeclarationResult) → Keeping → List UnitFacts → Type 0
IsKeeping lists keeping facts =
    AreInStep lists keeping.earlier keeping.following keeping.blocks facts
