-- What the walk over sites asks is what the table tells: the keys that count at tokens not behind the fault's.
use Rattle.std.proofs.Common.{◌≡◌, ◌∙◌, ℕ, ◌+◌, ◌<◌, ◌≤◌, Bool, true, false, cond, List, [], ◌∷◌, ◌++◌, length, Option, Some, None, Result, Ok, Err, refl, sym, ap, subst, arith, inl, inr}
use Rattle.std.proofs.lemmas.Bool.{and_parts, ltb-false, ltb-true}
use Rattle.std.proofs.lemmas.List.Elements.{All-append, All-cons, All-nil, All-weaker}
use Rattle.std.specs.Prelude.{◌↔◌, ◌&&◌, All, is_some, nat_lt, not, option_to_list}
use Rattle.idl_asked.proofs.FactLaws.{enough, places, seen-grounded}
use Rattle.idl_asked.proofs.PartLaws.{denoted-till, name-within}
use Rattle.idl_asked.proofs.SiteAsks.{turns_here, visit-asks}
use Rattle.idl_asked.specs.Units.{AsksAt, AsksSites, IsNotPast, counted_at, part_token}
use Rattle.idl_check_laws.proofs.IdlCheck.Faults.CutLaws.{named-past}
use Rattle.idl_check_laws.proofs.IdlCheck.Faults.FaultOrder.{all-at, least-in}
use Rattle.idl_check_laws.proofs.IdlCheck.Faults.LeastFault.{least-before}
use Rattle.idl_check_laws.proofs.IdlCheck.Faults.VisitFaults.{visit_faults}
use Rattle.idl_check_laws.proofs.IdlCheck.PartLemmas.{StandsAt}
use Rattle.idl_check_laws.proofs.IdlCheck.Visits.ApartLaws.{visit-apart, with_fault}
use Rattle.idl_check_laws.proofs.IdlCheck.Visits.SiteLaws.{IsFrom, IsPlaced, begin_before, faults-from, used_by, visit-placed, visited}
use Rattle.idl_check_laws.proofs.IdlCheck.Visits.WalkLaws.{looked, walk-noted}
use Rattle.idl_check_laws.specs.idl_check.ids.Remarks.{purpose_of}
use Rattle.idl_check_laws.specs.idl_check.tables.Codes.{codes_in}
use Rattle.idl_check_laws.specs.idl_check.tables.Using.{name_code, used_table}
use Rattle.idl_check_laws.specs.idl_check.told.Types.{looked_through}
use Rattle.idl_check_laws.specs.idl_check.walk.Judging.{IsNotAfter}
use Rattle.idl_check_laws.specs.idl_check.walk.Walk.{Visit, Walk, begin_of, is_over, looked_at, noted, noted_in, spoken_of, turns_at, used, used_visit, visit, walk}
use Rattle.idl_env.proofs.Membership.{IsIn, IsIn-left, IsIn-right, IsIn-split}
use Rattle.idl_env.specs.Facts.{UnitFacts, answers}
use Rattle.idl_env.specs.Turns.{turns_for}
use Rattle.idl_env.specs.declared.answering.answer.Answer.{Answer}
use Rattle.idl_env.specs.declared.keys.key.Key.{Key}
use Rattle.idl_entity.specs.declared.entity.Entity.{Entity}
use Rattle.idl_entity.specs.idl_tree.declared.name.ScopedName.{ScopedName}
use Rattle.idl_memo.proofs.QueryLaws.{asked-and_then, outcome-and_then}
use Rattle.idl_memo.specs.Query.{Done, and_then, asked, outcome}
use Rattle.idl_parts.specs.Item.{Item, item_length}
use Rattle.idl_parts.specs.Part.{Part as item}
use Rattle.idl_parts.specs.declared.part.TextPurpose.{TextPurpose}
use Rattle.idl_parts.specs.declared.part.Use.{Use}
use Rattle.idl_scope.proofs.FactsLaws.{outcome-under}
use Rattle.idl_scope.proofs.LookupLaws.DenotesOnce.{denotes_once}
use Rattle.idl_scope.proofs.LookupLaws.LookupLaws.{denotes}
use Rattle.idl_scope.specs.Lookup.{Lookup, denoted, under}
use Rattle.idl_scope.specs.Meaning.{Denotes, entity_found, seen}
use Rattle.idl_scope.specs.declared.fault.NameFault.{NameFault}
use Rattle.idl_scope.specs.declared.fault.NameFault.TheVariants.{At, Memory}
use Rattle.idl_scope.specs.declared.found.Found.{Found}
use Rattle.idl_tree.proofs.NameLemmas.{behind_name}
use Rattle.idl_tree.specs.NameParts.{last_at, part_at}
use Rattle.idl_unit.specs.TokenRules.{fault_at}
use Rattle.idl_unit.specs.declared.fault.Fault.{Fault}

-- ---- bounds of a fault

-- a fault, if there is one, stands at this token or later
abbrev pub Above : ℕ → Option Fault → Type 0
Above from o = (f : Fault) → o ≡ Some f → from ≤ f.index

abbrev pub Below : ℕ → Option Fault → Type 0
Below till o = (f : Fault) → o ≡ Some f → f.index ≤ till

pub not-past : (o : Option Fault) (from token : ℕ) → Above from o → token ≤ from → IsNotPast o token
not-past None from token above le = tt
not-past (Some f) from token above le = let here = above f refl in omega (arith, here, le)

option-all : (P : Fault → Type 0) (o : Option Fault) → ((f : Fault) → o ≡ Some f → P f) → All P (option_to_list o)
option-all P None h = All-nil P
option-all P (Some f) h = All-cons P f [] (h f refl) (All-nil P)

-- what holds of a fault and of further ones holds of the least
pub noted-holds : (P : Fault → Type 0) (o : Option Fault) (fs : List Fault) → ((f : Fault) → o ≡ Some f → P f) → All P fs → (f : Fault) → noted o fs ≡ Some f → P f
noted-holds P o fs here more f is = least-in P (option_to_list o ++ fs) f (All-append P (option_to_list o) fs (option-all P o here) more) is

-- with a known one the least is none that stands later
pub noted-least : (f : Fault) (fs : List Fault) (g : Fault) → noted (Some f) fs ≡ Some g → g.index ≤ f.index
noted-least f fs g is = by_order (least-before (f ∷ fs) g is f (0, omega arith, refl))
  where
    by_order : IsNotAfter g f → g.index ≤ f.index
    by_order (inl lt) = omega (arith, lt)
    by_order (inr beside) = omega (arith, beside.0)

-- a fault is known that stands before a token, outside of expressions
abbrev known_by : Option Fault → Option ℕ → ℕ → Bool
known_by o begin at = elim o [ None ↦ false | Some f ↦ nat_lt f.index at && not (is_some begin) ]

pub known-so : (o : Option Fault) (begin : Option ℕ) (at : ℕ) → known_by o begin at ≡ true → (f : Fault) × (o ≡ Some f) × (f.index < at) × (begin ≡ None)
known-so None begin at h = cc
known-so (Some f) (Some b) at h = let both = and_parts (nat_lt f.index at) false h in let no : false ≡ true = both.1 in cc
known-so (Some f) None at h = let both = and_parts (nat_lt f.index at) true h in (f, refl, ltb-true f.index at both.0, refl)

-- and none is
pub known-not : (o : Option Fault) (begin : Option ℕ) (at : ℕ) → known_by o begin at ≡ false → begin ≡ None → Above at o
known-not o (Some b) at h none f is = absurd (let no : Some b ≡ None = none in cc)
known-not None None at h none f is = absurd (let no : None ≡ Some f = is in cc)
known-not (Some g) None at h none f is = by_test (nat_lt g.index at) refl h
  where
    by_test : (t : Bool) → nat_lt g.index at ≡ t → (t && true) ≡ false → at ≤ f.index
    by_test true lt clash = absurd (let both : true ≡ false = clash in cc)
    by_test false lt clash = let same : g ≡ f = cc in let le = ltb-false g.index at lt in subst (λ (x : Fault). at ≤ x.index) same (omega (arith, le))

-- ---- the token at which a question counts

counted-from : (w : Walk) (token : ℕ) → w.at ≤ token → begin_of w ≤ counted_at w token
counted-from w token le = by_begin w.values.begin
  where
    by_begin : (o : Option ℕ) → begin_before o w.at ≤ cond (is_some o) (begin_before o w.at) token
    by_begin None = omega (arith, le)
    by_begin (Some b) = omega arith

-- outside of an expression it is the question's own, and in one its first
pub counted-own : (w : Walk) (token : ℕ) → w.values.begin ≡ None → counted_at w token ≡ token
counted-own w token none = ap (λ o. cond (is_some o) (begin_before o w.at) token) none

counted-first : (w : Walk) (token b : ℕ) → w.values.begin ≡ Some b → counted_at w token ≡ begin_of w
counted-first w token b some =
    ap (λ o. cond (is_some o) (begin_before o w.at) token) some ∙ sym (ap (λ o. begin_before o w.at) some)

pub begin-none : (w : Walk) → w.values.begin ≡ None → begin_of w ≡ w.at
begin-none w none = ap (λ o. begin_before o w.at) none

-- that of a part is none before the name
part-from : (w : Walk) (o : Option TextPurpose) (name : ScopedName) (part : ℕ) → w.at ≤ cond (is_some o) w.at (part_at w.at name part)
part-from w None name part = omega arith
part-from w (Some p) name part = omega arith

module _ (facts : List UnitFacts) (turns : ℕ) (enough_for : turns_for facts ≤ turns) where
  abbrev bank : Key → Option Answer
  bank = answers facts

  at-from : (site : Item) (w : Walk) (token : ℕ) (k : Key) → AsksAt (seen w.own facts) site w token k → begin_of w ≤ token
  at-from (item.Declares way name) w token k a = subst (λ t. begin_of w ≤ t) (sym a.3) (counted-from w w.at (omega arith))
  at-from (item.Uses way name) w token k (inl a) = subst (λ t. begin_of w ≤ t) (sym a.2) (counted-from w (cond (is_some (purpose_of way)) w.at (part_at w.at name a.0)) (part-from w (purpose_of way) name a.0))
  at-from (item.Uses way name) w token k (inr a) = subst (λ t. begin_of w ≤ t) (sym a.3) (counted-from w (cond (is_some (purpose_of way)) w.at (part_at w.at name (length name.rest))) (part-from w (purpose_of way) name (length name.rest)))
  at-from other w token k a = absurd a

  -- no question of later sites counts before
  sites-from : (limit : Option Fault) (sites : List Item) (w : Walk) (k : Key) → AsksSites turns facts limit sites w k → (token : ℕ) × (begin_of w ≤ token) × IsNotPast limit token
  sites-from limit [] w k a = absurd a
  sites-from limit (site ∷ sites) w k (inl a) = (a.0, at-from site w a.0 k a.1, a.2)
  sites-from limit (site ∷ sites) w k (inr a) =
      let rest = sites-from limit sites (visited turns bank site w).after k a in
      let p : IsPlaced site w (visited turns bank site w) = visit-placed turns bank site w in
      let begins = p.begins in
      let later = rest.1 in
      (rest.0, omega (arith, begins, later), rest.2)

  pub none-behind : (limit : Option Fault) (f : Fault) → limit ≡ Some f → (sites : List Item) (w : Walk) → f.index < begin_of w → (k : Key) → AsksSites turns facts limit sites w k → ⊥
  none-behind limit f is sites w lt k a =
      let some = sites-from limit sites w k a in
      let from = some.1 in
      let till : some.0 ≤ f.index = subst (λ o. IsNotPast o some.0) is some.2 in
      absurd (omega (arith, lt, from, till))

  -- the fault so far makes no difference
  at-apart : (o : Option Fault) (site : Item) (w : Walk) (token : ℕ) (k : Key) → AsksAt (seen w.own facts) site (with_fault o w) token k ↔ AsksAt (seen w.own facts) site w token k
  at-apart o (item.Declares way name) w token k = (λ a. a, λ a. a)
  at-apart o (item.Uses way name) w token k = (λ a. a, λ a. a)
  at-apart o other w token k = (λ a. a, λ a. a)

  pub sites-apart : (limit o : Option Fault) (sites : List Item) (w : Walk) (k : Key) → AsksSites turns facts limit sites (with_fault o w) k ↔ AsksSites turns facts limit sites w k
  sites-apart limit o [] w k = (λ a. a, λ a. a)
  sites-apart limit o (site ∷ sites) w k = let rest = sites-apart limit o sites (visited turns bank site w).after k in (there rest, back rest)
    where
      there : (AsksSites turns facts limit sites (with_fault o (visited turns bank site w).after) k ↔ AsksSites turns facts limit sites (visited turns bank site w).after k) → AsksSites turns facts limit (site ∷ sites) (with_fault o w) k → AsksSites turns facts limit (site ∷ sites) w k
      there rest (inl a) = inl (a.0, (at-apart o site w a.0 k).0 a.1, a.2)
      there rest (inr a) = inr (rest.0 (subst (λ (v : Visit). AsksSites turns facts limit sites v.after k) (visit-apart turns bank o site w) a))

      back : (AsksSites turns facts limit sites (with_fault o (visited turns bank site w).after) k ↔ AsksSites turns facts limit sites (visited turns bank site w).after k) → AsksSites turns facts limit (site ∷ sites) w k → AsksSites turns facts limit (site ∷ sites) (with_fault o w) k
      back rest (inl a) = inl (a.0, (at-apart o site w a.0 k).1 a.1, a.2)
      back rest (inr a) = inr (subst (λ (v : Visit). AsksSites turns facts limit sites v.after k) (sym (visit-apart turns bank o site w)) (rest.1 a))

  -- ---- a walk and the table

  -- the least fault that a walk comes to
  abbrev pub limit_of : List Item → Walk → Option Fault
  limit_of sites w = (outcome (walk turns sites w) bank).fault

  abbrev pub IsTable : List Item → Walk → Type 0
  IsTable sites w = (k : Key) → IsIn k (asked (walk turns sites w) bank) ↔ AsksSites turns facts (limit_of sites w) sites w k

  abbrev on : Bool → Item → List Item → Walk → Lookup Walk
  on b site sites w = cond b (Done w) (and_then (looked_at turns site w) (λ v. walk turns sites (noted_in v w.fault)))

  abbrev pub next_of : Item → Walk → Walk
  next_of site w = noted_in (looked turns bank site w) w.fault

  pub ends-table : (w : Walk) → IsTable [] w
  unfolding walk
  ends-table w k = (λ i. absurd i, λ a. absurd a)

  -- a walk that is over
  over-fault : (site : Item) (sites : List Item) (w : Walk) → is_over w ≡ true → limit_of (site ∷ sites) w ≡ w.fault
  unfolding walk
  over-fault site sites w is = ap (λ b. (outcome (on b site sites w) bank).fault) is

  over-asks : (site : Item) (sites : List Item) (w : Walk) → is_over w ≡ true → asked (walk turns (site ∷ sites) w) bank ≡ []
  unfolding walk
  over-asks site sites w is = ap (λ b. asked (on b site sites w) bank) is

  pub over-table : (site : Item) (sites : List Item) (w : Walk) → is_over w ≡ true → IsTable (site ∷ sites) w
  over-table site sites w is k =
      let known = known-so w.fault w.values.begin w.at is in
      let before : known.0.index < begin_of w = subst (λ n. known.0.index < n) (sym (begin-none w known.3)) known.2 in (
        λ i. absurd (subst (IsIn k) (over-asks site sites w is) i),
        λ a. absurd (none-behind (limit_of (site ∷ sites) w) known.0 (over-fault site sites w is ∙ known.1) (site ∷ sites) w before k a),
      )

  -- and one that isn't
  pub goes-fault : (site : Item) (sites : List Item) (w : Walk) → is_over w ≡ false → limit_of (site ∷ sites) w ≡ limit_of sites (next_of site w)
  unfolding walk
  goes-fault site sites w is =
      ap (λ b. (outcome (on b site sites w) bank).fault) is
      ∙ ap (λ (u : Walk). u.fault) (outcome-and_then (looked_at turns site w) (λ v. walk turns sites (noted_in v w.fault)) bank)

  goes-asks : (site : Item) (sites : List Item) (w : Walk) → is_over w ≡ false → asked (walk turns (site ∷ sites) w) bank ≡ asked (looked_at turns site w) bank ++ asked (walk turns sites (next_of site w)) bank
  unfolding walk
  goes-asks site sites w is =
      ap (λ b. asked (on b site sites w) bank) is
      ∙ asked-and_then (looked_at turns site w) (λ v. walk turns sites (noted_in v w.fault)) bank

  -- of a site: what is asked is what counts
  abbrev pub SiteTable : Option Fault → Item → Walk → Type 0
  SiteTable limit site w = (k : Key) → IsIn k (asked (looked_at turns site w) bank) ↔ ((token : ℕ) × AsksAt (seen w.own facts) site w token k × IsNotPast limit token)

  -- and of the sites behind it
  abbrev pub RestTable : Option Fault → Item → List Item → Walk → Type 0
  RestTable limit site sites w = (k : Key) → IsIn k (asked (walk turns sites (next_of site w)) bank) ↔ AsksSites turns facts limit sites (visited turns bank site w).after k

  pub goes-table : (site : Item) (sites : List Item) (w : Walk) → is_over w ≡ false → SiteTable (limit_of (site ∷ sites) w) site w → RestTable (limit_of (site ∷ sites) w) site sites w → IsTable (site ∷ sites) w
  goes-table site sites w is one rest k = (λ i. split (subst (IsIn k) (goes-asks site sites w is) i), λ a. subst (IsIn k) (sym (goes-asks site sites w is)) (back a))
    where
      split : IsIn k (asked (looked_at turns site w) bank ++ asked (walk turns sites (next_of site w)) bank) → AsksSites turns facts (limit_of (site ∷ sites) w) (site ∷ sites) w k
      split i = elim (IsIn-split k (asked (looked_at turns site w) bank) (asked (walk turns sites (next_of site w)) bank) i) [ inl j ↦ inl ((one k).0 j) | inr j ↦ inr ((rest k).0 j) ]

      back : AsksSites turns facts (limit_of (site ∷ sites) w) (site ∷ sites) w k → IsIn k (asked (looked_at turns site w) bank ++ asked (walk turns sites (next_of site w)) bank)
      back (inl a) = IsIn-left k (asked (looked_at turns site w) bank) (asked (walk turns sites (next_of site w)) bank) ((one k).1 a)
      back (inr a) = IsIn-right k (asked (looked_at turns site w) bank) (asked (walk turns sites (next_of site w)) bank) ((rest k).1 a)

  -- ---- a site that is looked at whole

  -- the next walk is the table's but for the fault
  pub whole-rest : (site : Item) (sites : List Item) (w : Walk) → is_over w ≡ false → looked_at turns site w ≡ visit turns site w → IsTable sites (next_of site w) → RestTable (limit_of (site ∷ sites) w) site sites w
  whole-rest site sites w is same more k =
      let v = visited turns bank site w in
      let fault = noted w.fault v.faults in
      let next : next_of site w ≡ with_fault fault v.after = ap (λ (q : Lookup Visit). noted_in (outcome q bank) w.fault) same in
      let apart = sites-apart (limit_of (site ∷ sites) w) fault sites v.after k in
      let limit = goes-fault site sites w is in (
        λ i. apart.0 (subst (λ u. AsksSites turns facts (limit_of (site ∷ sites) w) sites u k) next (subst (λ o. AsksSites turns facts o sites (next_of site w) k) (sym limit) ((more k).0 i))),
        λ a. (more k).1 (subst (λ o. AsksSites turns facts o sites (next_of site w) k) limit (subst (λ u. AsksSites turns facts (limit_of (site ∷ sites) w) sites u k) (sym next) (apart.1 a))),
      )

  pub whole-site : (limit : Option Fault) (site : Item) (w : Walk) → looked_at turns site w ≡ visit turns site w → ((token : ℕ) (k : Key) → AsksAt (seen w.own facts) site w token k → IsNotPast limit token) → SiteTable limit site w
  whole-site limit site w same within k =
      let all = visit-asks facts turns enough_for site w k in
      let one : asked (looked_at turns site w) bank ≡ asked (visit turns site w) bank = ap (λ (q : Lookup Visit). asked q bank) same in (
        λ i. let a = all.0 (subst (IsIn k) one i) in (a.0, a.1, within a.0 k a.1),
        λ a. subst (IsIn k) (sym one) (all.1 (a.0, a.1)),
      )

  -- no fault of all these stands before the expression around
  pub limit-above : (site : Item) (sites : List Item) (w : Walk) → Above (begin_of w) w.fault → Above (begin_of w) (limit_of (site ∷ sites) w)
  limit-above site sites w above f is =
      noted-holds (IsFrom (begin_of w)) w.fault (visit_faults turns bank (site ∷ sites) w) above (faults-from turns bank (site ∷ sites) w) f
      (sym (walk-noted turns bank (site ∷ sites) w) ∙ is)

  -- in an expression all counts at its first token
  pub inside-within : (limit : Option Fault) (site : Item) (w : Walk) (b : ℕ) → w.values.begin ≡ Some b → Above (begin_of w) limit → (token : ℕ) (k : Key) → AsksAt (seen w.own facts) site w token k → IsNotPast limit token
  inside-within limit (item.Declares way name) w b some above token k a = not-past limit (begin_of w) token above (let same = a.3 ∙ counted-first w w.at b some in omega (arith, same))
  inside-within limit (item.Uses way name) w b some above token k (inl a) =
      not-past limit (begin_of w) token above (let same = a.2 ∙ counted-first w (cond (is_some (purpose_of way)) w.at (part_at w.at name a.0)) b some in omega (arith, same))
  inside-within limit (item.Uses way name) w b some above token k (inr a) =
      not-past limit (begin_of w) token above (let same = a.3 ∙ counted-first w (cond (is_some (purpose_of way)) w.at (part_at w.at name (length name.rest))) b some in omega (arith, same))
  inside-within limit other w b some above token k a = absurd a

  -- ---- names outside of expressions

  -- of which something is said
  pub spoken-within : (limit : Option Fault) (way : Use) (name : ScopedName) (w : Walk) (p : TextPurpose) → purpose_of way ≡ Some p → w.values.begin ≡ None → Above (begin_of w) limit
      → (token : ℕ) (k : Key) → AsksAt (seen w.own facts) (item.Uses way name) w token k → IsNotPast limit token
  spoken-within limit way name w p some none above token k a = by_name a
    where
      first : (part : ℕ) → part_token w way name part ≡ w.at
      first part = counted-own w (cond (is_some (purpose_of way)) w.at (part_at w.at name part)) none ∙ ap (λ o. cond (is_some o) w.at (part_at w.at name part)) some

      by_name : AsksAt (seen w.own facts) (item.Uses way name) w token k → IsNotPast limit token
      by_name (inl x) = not-past limit (begin_of w) token above (let same = x.2 ∙ first x.0 in let here = begin-none w none in omega (arith, same, here))
      by_name (inr x) = not-past limit (begin_of w) token above (let same = x.3 ∙ first (length name.rest) in let here = begin-none w none in omega (arith, same, here))

  pub part-own : (way : Use) (name : ScopedName) (w : Walk) (part : ℕ) → purpose_of way ≡ None → w.values.begin ≡ None → part_token w way name part ≡ part_at w.at name part
  part-own way name w part plain none =
      counted-own w (cond (is_some (purpose_of way)) w.at (part_at w.at name part)) none ∙ ap (λ o. cond (is_some o) w.at (part_at w.at name part)) plain

  -- what a name denotes at a walk
  abbrev found_at : Walk → ScopedName → Result Found NameFault
  found_at w name = outcome (under w.own (denoted (turns_at turns w) w.cursor name)) bank

  pub found-is : (w : Walk) (name : ScopedName) → found_at w name ≡ outcome (denoted (turns_at turns w) w.cursor name) (seen w.own facts)
  found-is w name = outcome-under w.own bank (denoted (turns_at turns w) w.cursor name)

  used-is : (way : Use) (name : ScopedName) (w : Walk) → outcome (used turns way name w) bank ≡ outcome (used_by turns bank way name w (found_at w name)) bank
  unfolding used
  used-is way name w = outcome-and_then (under w.own (denoted (turns_at turns w) w.cursor name)) (used_by turns bank way name w) bank

  -- its faults stand at its last part, or at the part that has one
  used-from : (way : Use) (name : ScopedName) (w : Walk) (from : ℕ) → from ≤ length name.rest → (r : Result Found NameFault) → StandsAt (λ q. from ≤ q) r
      → All (IsFrom (part_at w.at name from)) (outcome (used_by turns bank way name w r) bank).faults
  used-from way name w from le (Ok found) h =
      let query = under w.own (looked_through (turns_at turns w) way found.entity) in
      subst (λ (v : Visit). All (IsFrom (part_at w.at name from)) v.faults) (sym (outcome-and_then query (λ behind. Done (used_visit w way name found behind)) bank))
      (all-at (IsFrom (part_at w.at name from)) (last_at w.at name) (λ c. omega (arith, le)) (codes_in (used_table way w.bases found.entity (outcome query bank))))
  used-from way name w from le (Err (At code part)) h = All-cons (IsFrom (part_at w.at name from)) (fault_at (part_at w.at name part) (name_code code)) [] (omega (arith, h)) (All-nil (IsFrom (part_at w.at name from)))
  used-from way name w from le (Err Memory) h = absurd h

  -- the same of all faults from there on, where none is known before
  name-above : (way : Use) (name : ScopedName) (sites : List Item) (w : Walk) → purpose_of way ≡ None → w.values.begin ≡ None → w.fault ≡ None → (from : ℕ) → from ≤ length name.rest → StandsAt (λ q. from ≤ q) (found_at w name)
      → Above (part_at w.at name from) (limit_of (item.Uses way name ∷ sites) w)
  unfolding visit
  name-above way name sites w plain none clear from le h f is =
      let v = visited turns bank (item.Uses way name) w in
      let p : IsPlaced (item.Uses way name) w v = visit-placed turns bank (item.Uses way name) w in
      let same : v ≡ outcome (used turns way name w) bank = plain-is (purpose_of way) plain in
      let here : All (IsFrom (part_at w.at name from)) v.faults = subst (λ (u : Visit). All (IsFrom (part_at w.at name from)) u.faults) (sym (same ∙ used-is way name w)) (used-from way name w from le (found_at w name) h) in
      let past = (named-past turns bank way name w) in
      let begins : v.after.values.begin ≡ None = ap (λ (u : Visit). u.after.values.begin) same ∙ past.1 ∙ none in
      let start : begin_of v.after ≡ v.after.at = begin-none v.after begins in
      let passes = p.passes in
      let behind : last_at w.at name + 1 ≡ w.at + item_length (item.Uses way name) = behind_name w.at name in
      let later : All (IsFrom (part_at w.at name from)) (visit_faults turns bank sites v.after) =
      All-weaker (IsFrom (begin_of v.after)) (IsFrom (part_at w.at name from)) (λ g le_g. omega (arith, le_g, start, passes, behind, le)) (visit_faults turns bank sites v.after) (faults-from turns bank sites v.after) in
      noted-holds (IsFrom (part_at w.at name from)) w.fault (visit_faults turns bank (item.Uses way name ∷ sites) w) (λ g known. absurd (let no : None ≡ Some g = sym clear ∙ known in cc))
      (All-append (IsFrom (part_at w.at name from)) v.faults (visit_faults turns bank sites v.after) here later) f
      (sym (walk-noted turns bank (item.Uses way name ∷ sites) w) ∙ is)
    where
      plain-is : (o : Option TextPurpose) → o ≡ None → outcome (elim o as (λ _. Lookup Visit) [ None ↦ used turns way name w | Some p ↦ spoken_of turns p name w ]) bank ≡ outcome (used turns way name w) bank
      plain-is None h = refl
      plain-is (Some p) h = absurd (let no : Some p ≡ None = h in cc)

  pub plain-within : (way : Use) (name : ScopedName) (sites : List Item) (w : Walk) → purpose_of way ≡ None → w.values.begin ≡ None → w.fault ≡ None
      → (token : ℕ) (k : Key) → AsksAt (seen w.own facts) (item.Uses way name) w token k → IsNotPast (limit_of (item.Uses way name ∷ sites) w) token
  plain-within way name sites w plain none clear token k a = by_name a
    where
      at_part : (part : ℕ) → token ≡ part_token w way name part → part ≤ length name.rest → StandsAt (λ q. part ≤ q) (found_at w name) → IsNotPast (limit_of (item.Uses way name ∷ sites) w) token
      at_part part is le h =
          not-past (limit_of (item.Uses way name ∷ sites) w) (part_at w.at name part) token (name-above way name sites w plain none clear part le h)
          (let same = is ∙ part-own way name w part plain none in omega (arith, same))

      found_so : (e : Entity) → Denotes (seen w.own facts) w.cursor name (Ok e) → (r : Result Found NameFault) → Denotes (seen w.own facts) w.cursor name (entity_found r) → StandsAt (λ q. length name.rest ≤ q) r
      found_so e d (Ok found) there = tt
      found_so e d (Err fault) there = absurd (let no : ◌≡◌ {A = Result Entity NameFault} (Err fault) (Ok e) = denotes_once (seen w.own facts) w.cursor name (Err fault) (Ok e) there d in cc)

      by_name : AsksAt (seen w.own facts) (item.Uses way name) w token k → IsNotPast (limit_of (item.Uses way name ∷ sites) w) token
      by_name (inl x) =
          at_part x.0 x.2 (name-within (seen w.own facts) w.cursor name x.0 k x.1)
          (subst (StandsAt (λ q. x.0 ≤ q)) (sym (found-is w name))
          (denoted-till (places facts w.own) (seen w.own facts) (seen-grounded facts w.own) (turns_at turns w) (enough facts w.own (turns_at turns w) (turns_here facts turns enough_for w)) w.cursor name x.0 k x.1))
      by_name (inr x) =
          at_part (length name.rest) x.3 (omega arith)
          (subst (StandsAt (λ q. length name.rest ≤ q)) (sym (found-is w name))
          (found_so x.0 x.1 (outcome (denoted (turns_at turns w) w.cursor name) (seen w.own facts)) (denotes facts w.own (turns_at turns w) (turns_here facts turns enough_for w) w.cursor name)))
