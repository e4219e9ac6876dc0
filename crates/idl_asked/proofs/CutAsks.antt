-- A name at whose first token a fault is known: what is asked of it is what counts there.
use Rattle.std.proofs.Common.{◌≡◌, ◌∙◌, ℕ, zero, suc, ◌+◌, ◌<◌, ◌≤◌, Bool, true, false, cond, List, [], ◌∷◌, length, Option, Some, None, Result, refl, sym, ap, subst, arith, inl, inr}
use Rattle.std.specs.Prelude.{◌↔◌, fold}
use Rattle.idl_asked.proofs.NameLaws.{asks-end}
use Rattle.idl_asked.proofs.NamedLaws.{q-asks}
use Rattle.idl_asked.proofs.PartLaws.{name-within}
use Rattle.idl_asked.proofs.SiteAsks.{NameAt, both-by, token-names, turns_here, used-asks}
use Rattle.idl_asked.proofs.WalkAsks.{Above, IsTable, RestTable, SiteTable, begin-none, goes-fault, limit-above, limit_of, next_of, none-behind, noted-least, part-own}
use Rattle.idl_asked.specs.Names.{AsksName}
use Rattle.idl_asked.specs.Units.{AsksAt, IsNotPast, part_token}
use Rattle.idl_check_laws.proofs.IdlCheck.Faults.CutLaws.{cut-past, named-past}
use Rattle.idl_check_laws.proofs.IdlCheck.Faults.VisitFaults.{visit_faults}
use Rattle.idl_check_laws.proofs.IdlCheck.Visits.SiteLaws.{visited}
use Rattle.idl_check_laws.proofs.IdlCheck.Visits.VisitLemmas.{cut_by}
use Rattle.idl_check_laws.proofs.IdlCheck.Visits.WalkLaws.{looked, walk-noted}
use Rattle.idl_check_laws.specs.idl_check.ids.Remarks.{purpose_of}
use Rattle.idl_check_laws.specs.idl_check.walk.Walk.{Visit, Walk, begin_of, cut_name, head_of, head_visit, is_known, is_over, looked_at, noted, spoken_of, turns_at, used, visit}
use Rattle.idl_entity.specs.idl_tree.declared.name.ScopedName.{ScopedName}
use Rattle.idl_env.proofs.Membership.{IsIn}
use Rattle.idl_env.specs.Facts.{UnitFacts, answers}
use Rattle.idl_env.specs.Turns.{turns_for}
use Rattle.idl_env.specs.declared.answering.answer.Answer.{Answer}
use Rattle.idl_env.specs.declared.keys.key.Key.{Key}
use Rattle.idl_memo.specs.Query.{Done, and_then, asked, outcome}
use Rattle.idl_parts.specs.Item.{Item}
use Rattle.idl_parts.specs.Part.{Part as item}
use Rattle.idl_parts.specs.declared.part.TextPurpose.{TextPurpose}
use Rattle.idl_parts.specs.declared.part.Use.{Use}
use Rattle.idl_scope.proofs.FactsLaws.{asked-under, outcome-under}
use Rattle.idl_scope.specs.Lookup.{Lookup, denoted, under}
use Rattle.idl_scope.specs.Meaning.{seen}
use Rattle.idl_scope.specs.declared.fault.NameFault.{NameFault}
use Rattle.idl_scope.specs.declared.found.Found.{Found}
use Rattle.idl_tree.specs.NameParts.{part_at}
use Rattle.idl_unit.specs.Faults.{lesser_fault}
use Rattle.idl_unit.specs.declared.fault.Fault.{Fault}

abbrev leading : Bool → ℕ
leading b = cond b 1 0

-- where a part stands: behind the first token, where `::` leads the name or other parts do
global-later : (name : ScopedName) (at part : ℕ) → name.is_global ≡ true → at < part_at at name part
global-later name at part global = let h : leading name.is_global ≡ 1 = ap leading global in omega (arith, h)

part-later : (name : ScopedName) (at part : ℕ) → 1 ≤ part → at < part_at at name part
part-later name at part le = omega (arith, le)

local-first : (name : ScopedName) (at part : ℕ) → name.is_global ≡ false → part ≤ 0 → part_at at name part ≤ at
local-first name at part local le = let h : leading name.is_global ≡ 0 = ap leading local in omega (arith, h, le)

module _ (facts : List UnitFacts) (turns : ℕ) (enough_for : turns_for facts ≤ turns) (way : Use) (name : ScopedName) (w : Walk)
    (plain : purpose_of way ≡ None) (none : w.values.begin ≡ None) where
  abbrev bank : Key → Option Answer
  bank = answers facts

  -- what is looked at
  looked-cut : is_known (w.at + 1) w ≡ true → looked_at turns (item.Uses way name) w ≡ cut_by turns way name w name.is_global name.rest
  unfolding cut_name
  looked-cut known = by_known (purpose_of way) (is_known (w.at + 1) w) plain known
    where
      by_known : (o : Option TextPurpose) (b : Bool) → o ≡ None → b ≡ true
          → (elim o as (λ _. Lookup Visit) [ None ↦ cond b (cut_name turns way name w) (used turns way name w) | Some p ↦ spoken_of turns p name w ]) ≡ cut_by turns way name w name.is_global name.rest
      by_known None true h g = refl
      by_known None false h g = absurd (let no : false ≡ true = g in cc)
      by_known (Some p) b h g = absurd (let no : Some p ≡ None = h in cc)

  module _ (limit : Option Fault) (g : Fault) (is : limit ≡ Some g) (there : g.index ≡ w.at) where
    -- what counts
    abbrev Counts : Key → Type 0
    Counts k = (token : ℕ) × AsksAt (seen w.own facts) (item.Uses way name) w token k × IsNotPast limit token

    up-to : (token : ℕ) → IsNotPast limit token → token ≤ w.at
    up-to token up = let le : token ≤ g.index = subst (λ o. IsNotPast o token) is up in omega (arith, le, there)

    from-to : (token : ℕ) → token ≤ w.at → IsNotPast limit token
    from-to token le = let up : IsNotPast (Some g) token = omega (arith, le, there) in subst (λ o. IsNotPast o token) (sym is) up

    -- a question that counts is one of the first part, which no `::` leads
    counted-part : (token part : ℕ) → token ≡ part_token w way name part → IsNotPast limit token → part_at w.at name part ≤ w.at
    counted-part token part same up = let own = part-own facts turns enough_for way name w part plain none in let le = up-to token up in omega (arith, own, same, le)

    -- nothing is asked
    global-counts : (k : Key) → name.is_global ≡ true → Counts k → ⊥
    global-counts k global c = by_name c.1
      where
        by_name : AsksAt (seen w.own facts) (item.Uses way name) w c.0 k → ⊥
        by_name (inl x) = absurd (let le = counted-part c.0 x.0 x.2 c.2 in let lt = global-later name w.at x.0 global in omega (arith, le, lt))
        by_name (inr x) = absurd (let le = counted-part c.0 (length name.rest) x.3 c.2 in let lt = global-later name w.at (length name.rest) global in omega (arith, le, lt))

    -- a name of one part is asked whole
    one-counts : (k : Key) → name.is_global ≡ false → name.rest ≡ [] → NameAt facts turns enough_for w way name k → Counts k
    one-counts k local rest a = by_name a
      where
        none_more : length name.rest ≡ 0
        none_more = ap length rest

        token_of : (part : ℕ) → part ≤ length name.rest → part_token w way name part ≤ w.at
        token_of part le =
            let own = part-own facts turns enough_for way name w part plain none in
            let short = none_more in
            let first = local-first name w.at part local (omega (arith, le, short)) in
            omega (arith, own, first)

        by_name : NameAt facts turns enough_for w way name k → Counts k
        by_name (inl x) = (part_token w way name x.0, inl (x.0, x.1, refl), from-to (part_token w way name x.0) (token_of x.0 (name-within (seen w.own facts) w.cursor name x.0 k x.1)))
        by_name (inr x) = (part_token w way name (length name.rest), inr (x.0, x.1, x.2, refl), from-to (part_token w way name (length name.rest)) (token_of (length name.rest) (omega arith)))

    -- and of one of several the first part
    abbrev head : Lookup (Result Found NameFault)
    head = under w.own (denoted (turns_at turns w) w.cursor (head_of name))

    head-asks : (k : Key) → IsIn k (asked (and_then head (λ r. Done (head_visit name w r))) bank) ↔ ((part : ℕ) × AsksName (seen w.own facts) w.cursor (head_of name) part k)
    head-asks k =
        both-by k (asks-end head (λ r. head_visit name w r) bank)
        (q-asks facts w.own (turns_at turns w) (turns_here facts turns enough_for w) w.cursor (head_of name) head
        (asked-under w.own bank (denoted (turns_at turns w) w.cursor (head_of name))) (outcome-under w.own bank (denoted (turns_at turns w) w.cursor (head_of name))) k)

    head-counts : (k : Key) → name.is_global ≡ false → (part : ℕ) → AsksName (seen w.own facts) w.cursor (head_of name) part k → Counts k
    head-counts k local zero a =
        (part_token w way name 0, inl (0, a, refl), from-to (part_token w way name 0) (let own = part-own facts turns enough_for way name w 0 plain none in let first = local-first name w.at 0 local (omega arith) in omega (arith, own, first)))
    head-counts k local (suc part) a = absurd a.2

    counts-head : (k : Key) → 1 ≤ length name.rest → Counts k → (part : ℕ) × AsksName (seen w.own facts) w.cursor (head_of name) part k
    counts-head k some c = by_name c.1
      where
        by_part : (part : ℕ) → AsksName (seen w.own facts) w.cursor name part k → c.0 ≡ part_token w way name part → (part : ℕ) × AsksName (seen w.own facts) w.cursor (head_of name) part k
        by_part zero a same = (0, a)
        by_part (suc part) a same = absurd (let le = counted-part c.0 (suc part) same c.2 in let lt = part-later name w.at (suc part) (omega arith) in omega (arith, le, lt))

        by_name : AsksAt (seen w.own facts) (item.Uses way name) w c.0 k → (part : ℕ) × AsksName (seen w.own facts) w.cursor (head_of name) part k
        by_name (inl x) = by_part x.0 x.1 x.2
        by_name (inr x) = absurd (let le = counted-part c.0 (length name.rest) x.3 c.2 in let lt = part-later name w.at (length name.rest) some in omega (arith, le, lt))

    cut-counts : (k : Key) (is_global : Bool) (parts : List (List ℕ)) → name.is_global ≡ is_global → name.rest ≡ parts → IsIn k (asked (cut_by turns way name w is_global parts) bank) ↔ Counts k
    cut-counts k true parts global rest = (λ i. absurd i, λ c. absurd (global-counts k global c))
    cut-counts k false [] local rest = (
      λ i. one-counts k local rest ((used-asks facts turns enough_for w way name plain k).0 i),
      λ c. (used-asks facts turns enough_for w way name plain k).1 (token-names facts turns enough_for w way name k c.0 c.1),
    )
    cut-counts k false (part ∷ parts) local rest = (
      λ i. let a = (head-asks k).0 i in head-counts k local a.0 a.1,
      λ c. (head-asks k).1 (counts-head k (let l = ap length rest in omega (arith, l)) c),
    )

    pub cut-site : is_known (w.at + 1) w ≡ true → SiteTable facts turns enough_for limit (item.Uses way name) w
    cut-site known k = both-by k (ap (λ (q : Lookup Visit). asked q bank) (looked-cut known)) (cut-counts k name.is_global name.rest refl refl)

  -- ---- behind the name

  -- the walk is past its first token, and in no expression
  pub looked-past : is_known (w.at + 1) w ≡ true → (w.at < (looked turns bank (item.Uses way name) w).after.at) × ((looked turns bank (item.Uses way name) w).after.values.begin ≡ w.values.begin)
  looked-past known =
      subst (λ (q : Lookup Visit). (w.at < (outcome q bank).after.at) × ((outcome q bank).after.values.begin ≡ w.values.begin)) (sym (looked-cut known))
      (cut-past turns bank way name w name.is_global name.rest)

  visited-past : (w.at < (visited turns bank (item.Uses way name) w).after.at) × ((visited turns bank (item.Uses way name) w).after.values.begin ≡ w.values.begin)
  unfolding visit
  visited-past = by_purpose (purpose_of way) plain
    where
      by_purpose : (o : Option TextPurpose) → o ≡ None
          → (w.at < (outcome (elim o as (λ _. Lookup Visit) [ None ↦ used turns way name w | Some p ↦ spoken_of turns p name w ]) bank).after.at)
          × ((outcome (elim o as (λ _. Lookup Visit) [ None ↦ used turns way name w | Some p ↦ spoken_of turns p name w ]) bank).after.values.begin ≡ w.values.begin)
      by_purpose None h = named-past turns bank way name w
      by_purpose (Some p) h = absurd (let no : Some p ≡ None = h in cc)

  pub cut-rest : (sites : List Item) → is_over w ≡ false → is_known (w.at + 1) w ≡ true → (g : Fault) → limit_of facts turns enough_for (item.Uses way name ∷ sites) w ≡ Some g → g.index ≡ w.at → IsTable facts turns enough_for sites (next_of facts turns enough_for (item.Uses way name) w)
      → RestTable facts turns enough_for (limit_of facts turns enough_for (item.Uses way name ∷ sites) w) (item.Uses way name) sites w
  cut-rest sites over known g is there more k =
      let next = next_of facts turns enough_for (item.Uses way name) w in
      let past = looked-past known in
      let whole = visited-past in
      let at_next : begin_of next ≡ next.at = begin-none next (past.1 ∙ none) in
      let at_whole : begin_of (visited turns bank (item.Uses way name) w).after ≡ (visited turns bank (item.Uses way name) w).after.at = begin-none (visited turns bank (item.Uses way name) w).after (whole.1 ∙ none) in
      let far = past.0 in
      let far_whole = whole.0 in
      let limit = goes-fault facts turns enough_for (item.Uses way name) sites w over in (
        λ i. absurd (none-behind facts turns enough_for (limit_of facts turns enough_for sites next) g (sym limit ∙ is) sites next (omega (arith, there, at_next, far)) k ((more k).0 i)),
        λ a. absurd (none-behind facts turns enough_for (limit_of facts turns enough_for (item.Uses way name ∷ sites) w) g is sites (visited turns bank (item.Uses way name) w).after (omega (arith, there, at_whole, far_whole)) k a),
      )

  -- ---- the least fault then stands at the name's first token

  pub cut-limit : (sites : List Item) (f : Fault) → w.fault ≡ Some f → f.index ≤ w.at → Above (begin_of w) w.fault → (g : Fault) × (limit_of facts turns enough_for (item.Uses way name ∷ sites) w ≡ Some g) × (g.index ≡ w.at)
  cut-limit sites f known le above =
      let fs = visit_faults turns bank (item.Uses way name ∷ sites) w in
      let g = fold lesser_fault f fs in
      let is : limit_of facts turns enough_for (item.Uses way name ∷ sites) w ≡ Some g = walk-noted turns bank (item.Uses way name ∷ sites) w ∙ ap (λ o. noted o fs) known in
      let till = noted-least f fs g refl in
      let from = limit-above facts turns enough_for (item.Uses way name) sites w above g is in
      let here = begin-none w none in
      (g, is, omega (arith, till, from, here, le))
