-- A name's use in a scope is asked for only behind what the scope declares the name as.
use Rattle.std.proofs.Common.{◌≡◌, ◌≢◌, ℕ, zero, suc, ◌+◌, Bool, true, false, cond, List, [], ◌∷◌, ◌++◌, Option, Some, None, Result, Ok, Err, append-nil, append_assoc, refl, sym, subst}
use Rattle.std.specs.Prelude.{is_some, option_to_list, slice_get}
use Rattle.std.specs.List.{list_any}
use Rattle.std.proofs.lemmas.List.Elements.{Contains-push}
use Rattle.idl_check_laws.specs.idl_check.ids.About.{Said, about, about_entity, refused_for, said_at, unnamed_faults, with_faults}
use Rattle.idl_check_laws.specs.idl_check.ids.Identifying.{id_before, ids_of}
use Rattle.idl_check_laws.specs.idl_check.ids.Pragmas.{said_by, text_faults}
use Rattle.idl_check_laws.specs.idl_check.ids.Remarks.{about_scope, is_bad_text, prefixed_at, purpose_of, remark, said_by_text, unless}
use Rattle.idl_check_laws.specs.idl_check.tables.Declaring.{entity_of, inherited, is_any, standing}
use Rattle.idl_check_laws.specs.idl_check.tables.Rules.{has_id, may_be_ahead}
use Rattle.idl_check_laws.specs.idl_check.told.Types.{aliased, behind_typedefs, is_looked_through, looked_through, path_in}
use Rattle.idl_check_laws.specs.idl_check.walk.Placing.{faulty_step, opened_kind, step_of}
use Rattle.idl_check_laws.specs.idl_check.walk.Verdict.{asking, by_names, by_tree, faulty, judged, placed_walk, pragma_judged, pragma_verdict, refused, sound, token_verdict, unit_tree, verdict}
use Rattle.idl_check_laws.specs.idl_check.walk.Walk.{Visit, Walk, cut_name, declared_visit, head_of, head_visit, is_known, is_over, looked_at, noted_in, passed, past_name, quiet, spoken_of, spoken_visit, turns_at, unfound_visit, unspoken_visit, used, used_visit, visit, walk}
use Rattle.idl_check_laws.specs.idl_check.declared.ids.identifying.Ids.{Ids}
use Rattle.idl_check_laws.specs.idl_check.declared.tables.standing.Standing.{Standing}
use Rattle.idl_check_laws.specs.idl_check.declared.walk.verdict.Verdict.{Verdict}
use Rattle.idl_entity.specs.Entity.{is_operation}
use Rattle.idl_entity.specs.Kind.{inherits, is_scope}
use Rattle.idl_entity.specs.Path.{name_of}
use Rattle.idl_entity.specs.declared.entity.Entity.{Entity}
use Rattle.idl_entity.specs.declared.identity.Fixed.{Fixed}
use Rattle.idl_entity.specs.declared.identity.Fixed.TheVariants.{Version, Id}
use Rattle.idl_entity.specs.declared.kind.Kind.{Kind}
use Rattle.idl_env.specs.Facts.{entity_in, entity_key, identity_in, joined, over, path_around, prefix_in, scopes_in, typeprefix_in}
use Rattle.idl_env.specs.declared.additions.addition.Addition.{Addition}
use Rattle.idl_env.specs.declared.additions.addition.Step.{Step}
use Rattle.idl_env.specs.declared.additions.addition.Step.TheVariants.{Stays, Opens, OpensNameless, Closes, Prefixes, Enters, Leaves}
use Rattle.idl_env.specs.declared.answering.answer.Answer.{Answer}
use Rattle.idl_env.specs.declared.answering.answer.Scope.{Scope}
use Rattle.idl_env.specs.declared.keys.key.Key.{Key}
use Rattle.idl_env.specs.declared.keys.key.Key.TheVariants.{Cursor, Declared, IdOf, Introduced, Nameless, Opened, Prefix as PrefixKey, Typeprefix}
use Rattle.idl_block.proofs.FactLaws.Seen.AddedSees.{IsPlain}
use Rattle.idl_root_blocks.proofs.VerdictLaws.Cursors.{IsCursor, cursor-first, looked-cursor, site-cursor}
use Rattle.idl_check_laws.proofs.Nests.LevelSites.{Around, AreFit, around_after}
use Rattle.idl_check_laws.proofs.Nests.UnitNesting.{unit-whole}
use Rattle.idl_block.specs.facts.Known.{AreBehind, IsBehind, NoneInside}
use Rattle.idl_fault.specs.declared.code.Code.TheVariants as code
use Rattle.idl_lex.specs.kinds.Keywords.{folded}
use Rattle.idl_lex.specs.tokens.Tokens.{Token}
use Rattle.idl_memo.proofs.QueryLaws.{asked-and_then}
use Rattle.idl_memo.specs.Query.{Ask, Done, and_then, asked, outcome}
use Rattle.idl_parts.specs.Item.{Item, items}
use Rattle.idl_parts.specs.Part.{Part as item}
use Rattle.idl_parts.specs.UnitParts.{unit_parts}
use Rattle.idl_parts.specs.declared.part.TextPurpose.{TextPurpose}
use Rattle.idl_parts.specs.declared.part.TextPurpose.TheVariants as text
use Rattle.idl_parts.specs.declared.part.Use.{Use}
use Rattle.idl_scope.proofs.FactsLaws.{asked-under}
use Rattle.idl_scope.specs.Known.{known, typeprefix_around}
use Rattle.idl_scope.specs.Lookup.{Lookup, by_result, choose, decided, denoted, entered, first_part, found_as, further, has, is_nothing, judged as judged_name, part_of, placed, reach_of, reached, searched, under, walk as walk_bases}
use Rattle.idl_scope.specs.Meaning.{bases_of}
use Rattle.idl_scope.specs.declared.fault.NameCode.TheVariants.{NoScope}
use Rattle.idl_scope.specs.declared.fault.NameFault.TheVariants.{At}
use Rattle.idl_check_laws.specs.idl_parse.Parse.{pragma_faults}
use Rattle.idl_tree.specs.NameParts.{last_at}
use Rattle.idl_tree.specs.Pragma.{pragma_of}
use Rattle.idl_tree.specs.declared.name.ScopedName.{ScopedName}
use Rattle.idl_tree.specs.declared.pragma.Pragma.{Pragma}
use Rattle.idl_tree.specs.declared.pragma.Pragma.TheVariants as pragma
use Rattle.idl_tree.specs.declared.unit.Tree.{Tree}
use Rattle.idl_unit.specs.Faults.{least_fault}
use Rattle.idl_unit.specs.TokenRules.{fault_at, first}
use Rattle.idl_unit.specs.declared.fault.Fault.{Fault}
use Rattle.idl_unit.specs.declared.unit.UnitText.{UnitText}
use Rattle.idl_unit.specs.declared.unit.UnitText.TheVariants as unit

-- the scopes that are open where a unit stands
module _ (scopes : List Scope) where
  -- ---- queries

  behind-append : (earlier keys more : List Key) → AreBehind scopes earlier keys → AreBehind scopes (earlier ++ keys) more → AreBehind scopes earlier (keys ++ more)
  behind-append earlier [] more first then = subst (λ ks. AreBehind scopes ks more) (append-nil earlier) then
  behind-append earlier (k ∷ keys) more first then =
      (first.0, behind-append (earlier ++ k ∷ []) keys more first.1 (subst (λ ks. AreBehind scopes ks more) (sym (append_assoc earlier (k ∷ []) keys)) then))

  -- whatever is answered, its keys are asked in such an order
  pub record IsOrdered {A : Type 0} (query : Lookup A) : Type 0 where
    pub ordered : (bank : Key → Option Answer) (earlier : List Key) → AreBehind scopes earlier (asked query bank)

  done-ordered : {A : Type 0} (a : A) → IsOrdered {A = A} (Done a)
  done-ordered a = record { ordered = λ bank earlier. tt }

  plain-behind : (k : Key) (earlier : List Key) → IsPlain k → IsBehind scopes earlier k
  plain-behind (Introduced n path body) earlier plain = absurd plain
  plain-behind Cursor earlier plain = tt
  plain-behind (Declared n path) earlier plain = tt
  plain-behind (Opened path) earlier plain = tt
  plain-behind Nameless earlier plain = tt
  plain-behind PrefixKey earlier plain = tt
  plain-behind (IdOf path) earlier plain = tt
  plain-behind (Typeprefix path) earlier plain = tt

  ask-ordered : {A : Type 0} (k : Key) (next : Option Answer → Lookup A) → IsPlain k → ((v : Option Answer) → IsOrdered (next v)) → IsOrdered (Ask k next)
  ask-ordered k next plain rest = record { ordered = λ bank earlier. (plain-behind k earlier plain, (rest (bank k)).ordered bank (earlier ++ k ∷ [])) }

  then-ordered : {A B : Type 0} (query : Lookup A) (f : A → Lookup B) → IsOrdered query → ((a : A) → IsOrdered (f a)) → IsOrdered (and_then query f)
  then-ordered query f first then = record {
    ordered = λ bank earlier.
        subst (AreBehind scopes earlier) (sym (asked-and_then query f bank))
        (behind-append earlier (asked query bank) (asked (f (outcome query bank)) bank) (first.ordered bank earlier) ((then (outcome query bank)).ordered bank (earlier ++ asked query bank)));
  }

  under-ordered : {A : Type 0} (own : List Addition) (query : Lookup A) → IsOrdered query → IsOrdered (under own query)
  under-ordered own query under_it = record { ordered = λ bank earlier. subst (AreBehind scopes earlier) (sym (asked-under own bank query)) (under_it.ordered (λ k. over own k (bank k)) earlier) }

  if-ordered : {A : Type 0} (b : Bool) (query other : Lookup A) → IsOrdered query → IsOrdered other → IsOrdered (cond b query other)
  if-ordered true query other first second = first
  if-ordered false query other first second = second

  result-ordered : {A B C : Type 0} (r : Result A B) (f : A → Lookup C) (g : B → Lookup C) → ((a : A) → IsOrdered (f a)) → ((b : B) → IsOrdered (g b)) → IsOrdered (by_result r f g)
  result-ordered (Ok a) f g first second = first a
  result-ordered (Err b) f g first second = second b

  choose-ordered : {A : Type 0} (o : Option Entity) (nothing : Lookup A) (found : Entity → Lookup A) → IsOrdered nothing → ((e : Entity) → IsOrdered (found e)) → IsOrdered (choose o nothing found)
  choose-ordered None nothing found first second = first
  choose-ordered (Some e) nothing found first second = second e

  option-ordered : {A B : Type 0} (o : Option A) (nothing : Lookup B) (found : A → Lookup B) → IsOrdered nothing → ((a : A) → IsOrdered (found a))
      → IsOrdered (elim o as (λ _. Lookup B) [ None ↦ nothing | Some a ↦ found a ])
  option-ordered None nothing found first second = first
  option-ordered (Some a) nothing found first second = second a

  -- ---- look-ups

  entered-ordered : (n : List ℕ) (b : List (List ℕ)) → IsOrdered (entered n b)
  entered-ordered n b =
      ask-ordered (Declared n b) _ tt (λ own. choose-ordered (entity_in own) _ _ (ask-ordered (entity_key b) _ tt (λ base. done-ordered (None, bases_of (entity_in base)))) (λ e. done-ordered (Some e, [])))

  walk_bases-ordered : (turns : ℕ) (n : List ℕ) (at : ℕ) (queue : List (List (List ℕ))) (found : List Entity) → IsOrdered (walk_bases turns n at queue found)
  unfolding walk_bases
  walk_bases-ordered zero n at queue found = done-ordered found
  walk_bases-ordered (suc turns) n at queue found =
      option-ordered (slice_get queue at) (Done found) (λ b. and_then (entered n b) (λ r. walk_bases turns n (at + 1) (joined queue r.1) (found ++ option_to_list r.0))) (done-ordered found)
      (λ b. then-ordered (entered n b) _ (entered-ordered n b) (λ r. walk_bases-ordered turns n (at + 1) (joined queue r.1) (found ++ option_to_list r.0)))

  reached-ordered : (turns : ℕ) (n : List ℕ) (bases : List (List (List ℕ))) → IsOrdered (reached turns n bases)
  reached-ordered turns n bases = walk_bases-ordered turns n 0 (joined [] bases) []

  has-ordered : (turns : ℕ) (kind : Kind) (path : List (List ℕ)) (n : List ℕ) → IsOrdered (has turns kind path n)
  has-ordered turns kind path n =
      ask-ordered (Declared n path) _ tt
      (λ own. if-ordered (inherits kind) _ _
      (ask-ordered (entity_key path) _ tt (λ scope. choose-ordered (entity_in own) _ _ (reached-ordered turns n (bases_of (entity_in scope))) (λ e. done-ordered (e ∷ []))))
      (done-ordered (option_to_list (entity_in own))))

  decided-ordered : (turns inside : ℕ) (scopes : List Scope) (n : List ℕ) → IsOrdered (decided turns inside scopes n)
  decided-ordered turns inside [] n = done-ordered ([], 0)
  decided-ordered turns inside (s ∷ scopes) n =
      then-ordered (has turns s.kind s.path n) _ (has-ordered turns s.kind s.path n) (λ found. if-ordered (is_nothing found) _ _ (decided-ordered turns (inside + 1) scopes n) (done-ordered (found, inside)))

  part-ordered : (part : ℕ) (name : List ℕ) (query : Lookup (List Entity)) → IsOrdered query → IsOrdered (part_of part name query)
  part-ordered part name query ordered = then-ordered query _ ordered (λ found. done-ordered (placed part (judged_name name found)))

  further-ordered : (turns part : ℕ) (e : Entity) (names : List (List ℕ)) → IsOrdered (further turns part e names)
  further-ordered turns part e [] = done-ordered (Ok e)
  further-ordered turns part e (name ∷ names) =
      if-ordered (is_scope e.kind) _ _
      (then-ordered (part_of (part + 1) name (has turns e.kind e.path (folded name))) _ (part-ordered (part + 1) name (has turns e.kind e.path (folded name)) (has-ordered turns e.kind e.path (folded name)))
      (λ r. result-ordered r _ _ (λ f. further-ordered turns (part + 1) f names) (λ fault. done-ordered (Err fault))))
      (done-ordered (Err (At NoScope part)))

  denoted-ordered : (turns : ℕ) (cursor : List Scope) (name : ScopedName) → IsOrdered (denoted turns cursor name)
  denoted-ordered turns cursor name =
      then-ordered (first_part turns cursor name) _
      (then-ordered (decided turns 0 (searched name.is_global cursor) (folded name.first)) _ (decided-ordered turns 0 (searched name.is_global cursor) (folded name.first)) (λ d. done-ordered (placed 0 (judged_name name.first d.0), d.1)))
      (λ r. result-ordered r.0 _ _ (λ f. then-ordered (further turns 0 f name.rest) _ (further-ordered turns 0 f name.rest) (λ last. done-ordered (found_as (reach_of name cursor r.1 f) last))) (λ fault. done-ordered (Err fault)))

  -- ---- ids

  typeprefix-ordered : (path : List (List ℕ)) → IsOrdered (typeprefix_around path)
  typeprefix-ordered [] = done-ordered None
  typeprefix-ordered (name ∷ scope) =
      ask-ordered (Typeprefix (name ∷ scope)) _ tt (λ answer. option-ordered (typeprefix_in answer) (typeprefix_around scope) (λ text. Done (Some text)) (typeprefix-ordered scope) (λ text. done-ordered (Some text)))

  known-ordered : (path : List (List ℕ)) → IsOrdered (known path)
  known-ordered path = ask-ordered (IdOf path) _ tt (λ answer. then-ordered (typeprefix_around path) _ (typeprefix-ordered path) (λ typeprefix. done-ordered (identity_in typeprefix answer)))

  before-ordered : (there : Option Entity) → IsOrdered (id_before there)
  before-ordered None = done-ordered None
  before-ordered (Some old) = if-ordered (may_be_ahead old.kind) _ _ (known-ordered old.path) (done-ordered None)

  ids-ordered : (there : Option Entity) (e : Entity) → IsOrdered (ids_of there e)
  ids-ordered there e =
      if-ordered (has_id e.kind) _ _ (ask-ordered PrefixKey _ tt (λ answer. then-ordered (id_before there) _ (before-ordered there) (λ before. done-ordered (Some (record { prefix = prefix_in answer; before = before }))))) (done-ordered None)

  about-ordered : (at : ℕ) (change : Fixed) (e : Entity) → IsOrdered (about_entity at change e)
  about-ordered at change e = if-ordered (has_id e.kind) _ _ (then-ordered (known e.path) _ (known-ordered e.path) (λ d. done-ordered (elim d as (λ _. Said) [ None ↦ refused_for [] | Some d ↦ said_at at change e.path d ]))) (done-ordered (refused_for (fault_at at code.NoRepositoryId ∷ [])))

  scope-ordered : (at : ℕ) (prefix : List ℕ) (e : Entity) → IsOrdered (about_scope at prefix e)
  scope-ordered at prefix e = if-ordered (is_scope e.kind) _ _ (ask-ordered (Typeprefix e.path) _ tt (λ answer. done-ordered (prefixed_at at prefix e.path answer))) (done-ordered (refused_for (fault_at at code.NoScope ∷ [])))

  text-ordered : (purpose : TextPurpose) (at : ℕ) (t : List ℕ) (e : Entity) → IsOrdered (said_by_text purpose at t e)
  text-ordered text.Context at t e = done-ordered (refused_for [])
  text-ordered text.Id at t e = about-ordered at (Id t) e
  text-ordered text.Prefix at t e = scope-ordered at t e

  remark-ordered : (purpose : TextPurpose) (at : ℕ) (t : List ℕ) (e : Entity) → IsOrdered (remark purpose at t e)
  remark-ordered purpose at t e = then-ordered (said_by_text purpose at t e) _ (text-ordered purpose at t e) (λ s. done-ordered (unless (is_bad_text purpose t) s))

  -- ---- sites

  typedefs-ordered : (turns : ℕ) (name e : Entity) → IsOrdered (behind_typedefs turns name e)
  typedefs-ordered zero name e = done-ordered name
  typedefs-ordered (suc turns) name e =
      option-ordered (path_in (aliased e)) (Done e) (λ path. Ask (entity_key path) (λ there. elim (entity_in there) [ None ↦ Done e | Some f ↦ behind_typedefs turns name f ])) (done-ordered e)
      (λ path. ask-ordered (entity_key path) _ tt (λ there. option-ordered (entity_in there) (Done e) (λ f. behind_typedefs turns name f) (done-ordered e) (λ f. typedefs-ordered turns name f)))

  through-ordered : (turns : ℕ) (way : Use) (e : Entity) → IsOrdered (looked_through turns way e)
  unfolding looked_through
  through-ordered turns way e = if-ordered (is_looked_through way) _ _ (typedefs-ordered (suc turns) e e) (done-ordered e)

  inherited-ordered : (turns : ℕ) (s : Scope) (n : List ℕ) → IsOrdered (inherited turns s n)
  inherited-ordered turns s n = if-ordered (inherits s.kind) _ _ (ask-ordered (entity_key s.path) _ tt (λ scope. reached-ordered turns n (bases_of (entity_in scope)))) (done-ordered [])

  abbrev standing_of : Option Entity → Option Answer → List Entity → Option Ids → Standing
  standing_of there used found ids =
      record { there = there; is_used = is_some used; brings_operation = list_any is_operation found; is_reached = is_any found; ids = ids }

  -- of a name that is declared it is asked what the scope declares it as, and then whether it is used
  standing-ordered : (turns : ℕ) (s : Scope) (e : Entity) → NoneInside scopes s.path → IsOrdered (standing turns s e)
  standing-ordered turns s e none = record {
    ordered = λ bank earlier. (
      tt,
      ((Contains-push earlier (Declared (folded (name_of e.path)) s.path), none), (rest bank).ordered bank ((earlier ++ Declared (folded (name_of e.path)) s.path ∷ []) ++ Introduced (folded (name_of e.path)) s.path s.body ∷ [])),
    );
  }
    where
      rest : (bank : Key → Option Answer)
          → IsOrdered (and_then (inherited turns s (folded (name_of e.path)))
          (λ found. and_then (ids_of (entity_in (bank (Declared (folded (name_of e.path)) s.path))) e)
          (λ ids. Done (standing_of (entity_in (bank (Declared (folded (name_of e.path)) s.path))) (bank (Introduced (folded (name_of e.path)) s.path s.body)) found ids))))
      rest bank =
          let there : Option Entity = entity_in (bank (Declared (folded (name_of e.path)) s.path)) in
          then-ordered (inherited turns s (folded (name_of e.path))) _ (inherited-ordered turns s (folded (name_of e.path)))
          (λ found. then-ordered (ids_of there e) _ (ids-ordered there e) (λ ids. done-ordered (standing_of there (bank (Introduced (folded (name_of e.path)) s.path s.body)) found ids)))

  used-ordered : (turns : ℕ) (way : Use) (name : ScopedName) (w : Walk) → IsOrdered (used turns way name w)
  unfolding used
  used-ordered turns way name w =
      then-ordered (under w.own (denoted (turns_at turns w) w.cursor name)) _ (under-ordered w.own (denoted (turns_at turns w) w.cursor name) (denoted-ordered (turns_at turns w) w.cursor name))
      (λ r. result-ordered r _ _
      (λ found. then-ordered (under w.own (looked_through (turns_at turns w) way found.entity)) _ (under-ordered w.own (looked_through (turns_at turns w) way found.entity) (through-ordered (turns_at turns w) way found.entity)) (λ behind. done-ordered (used_visit w way name found behind)))
      (λ fault. done-ordered (unfound_visit w way name fault)))

  spoken-ordered : (turns : ℕ) (purpose : TextPurpose) (name : ScopedName) (w : Walk) → IsOrdered (spoken_of turns purpose name w)
  unfolding spoken_of
  spoken-ordered turns purpose name w =
      then-ordered (under w.own (denoted (turns_at turns w) w.cursor name)) _ (under-ordered w.own (denoted (turns_at turns w) w.cursor name) (denoted-ordered (turns_at turns w) w.cursor name))
      (λ r. result-ordered r _ _
      (λ found. then-ordered (under w.own (remark purpose (last_at w.at name) w.text found.entity)) _ (under-ordered w.own (remark purpose (last_at w.at name) w.text found.entity) (remark-ordered purpose (last_at w.at name) w.text found.entity)) (λ s. done-ordered (spoken_visit w name found s)))
      (λ fault. done-ordered (unspoken_visit w name fault)))

  cut-ordered : (turns : ℕ) (way : Use) (name : ScopedName) (w : Walk) → IsOrdered (cut_name turns way name w)
  unfolding cut_name
  cut-ordered turns way name w = if-ordered name.is_global _ _ (done-ordered (quiet (past_name name w))) (by name.rest)
    where
      by : (rest : List (List ℕ)) → IsOrdered (elim rest as (λ _. Lookup Visit) [ [] ↦ used turns way name w | part ∷ parts ↦ and_then (under w.own (denoted (turns_at turns w) w.cursor (head_of name))) (λ r. Done (head_visit name w r)) ])
      by [] = used-ordered turns way name w
      by (part ∷ parts) =
          then-ordered (under w.own (denoted (turns_at turns w) w.cursor (head_of name))) _ (under-ordered w.own (denoted (turns_at turns w) w.cursor (head_of name)) (denoted-ordered (turns_at turns w) w.cursor (head_of name)))
          (λ r. done-ordered (head_visit name w r))

  -- a name is declared in the innermost scope, inside of which none is open
  looked-ordered : (turns : ℕ) (site : Item) (w : Walk) → ((s : Scope) → first w.cursor ≡ Some s → NoneInside scopes s.path) → IsOrdered (looked_at turns site w)
  unfolding visit
  looked-ordered turns (item.Uses way name) w none = by (purpose_of way)
    where
      by : (o : Option TextPurpose)
          → IsOrdered (elim o as (λ _. Lookup Visit) [ None ↦ cond (is_known (w.at + 1) w) (cut_name turns way name w) (used turns way name w) | Some purpose ↦ spoken_of turns purpose name w ])
      by None = if-ordered (is_known (w.at + 1) w) _ _ (cut-ordered turns way name w) (used-ordered turns way name w)
      by (Some purpose) = spoken-ordered turns purpose name w
  looked-ordered turns (item.Declares way name) w none = by (first w.cursor) refl
    where
      by : (o : Option Scope) → first w.cursor ≡ o
          → IsOrdered (elim o as (λ _. Lookup Visit) [
            | None ↦ Done (quiet (passed 1 w))
            | Some s ↦ and_then (under w.own (standing (turns_at turns w) s (entity_of w.written way name s.path))) (λ there. Done (declared_visit w way s (entity_of w.written way name s.path) there))
          ])
      by None is = done-ordered (quiet (passed 1 w))
      by (Some s) is =
          then-ordered (under w.own (standing (turns_at turns w) s (entity_of w.written way name s.path))) _
          (under-ordered w.own (standing (turns_at turns w) s (entity_of w.written way name s.path)) (standing-ordered (turns_at turns w) s (entity_of w.written way name s.path) (none s is)))
          (λ there. done-ordered (declared_visit w way s (entity_of w.written way name s.path) there))
  looked-ordered turns (item.ScopeBegins way name) w none = record { ordered = λ bank earlier. tt }
  looked-ordered turns item.ScopeEnds w none = record { ordered = λ bank earlier. tt }
  looked-ordered turns item.ValueBegins w none = record { ordered = λ bank earlier. tt }
  looked-ordered turns (item.ValueEnds way expression) w none = record { ordered = λ bank earlier. tt }
  looked-ordered turns (item.TypeEnds shape) w none = record { ordered = λ bank earlier. tt }
  looked-ordered turns item.ArrayEnds w none = record { ordered = λ bank earlier. tt }
  looked-ordered turns (item.Enumerates names) w none = record { ordered = λ bank earlier. tt }
  looked-ordered turns (item.Identifies text) w none = record { ordered = λ bank earlier. tt }
  looked-ordered turns (item.Switches discrete) w none = record { ordered = λ bank earlier. tt }
  looked-ordered turns item.Default w none = record { ordered = λ bank earlier. tt }
  looked-ordered turns item.GivesBack w none = record { ordered = λ bank earlier. tt }
  looked-ordered turns (item.Plain n) w none = record { ordered = λ bank earlier. tt }
  looked-ordered turns (item.Says purpose text) w none = record { ordered = λ bank earlier. tt }

  -- the sites of a unit, by the scopes that have begun
  module _ (some : scopes ≢ []) (deepest : NoneInside scopes (path_around scopes)) (turns : ℕ) where
    walk-behind : (bank : Key → Option Answer) (sites : List Item) (w : Walk) (a : Around) → AreFit sites a → IsCursor scopes some deepest a.scopes w.cursor → (earlier : List Key)
        → AreBehind scopes earlier (asked (walk turns sites w) bank)
    unfolding walk
    walk-behind bank [] w a fit cursor earlier = tt
    walk-behind bank (site ∷ sites) w a fit cursor earlier =
        by (λ u there before. walk-behind bank sites u (around_after site a) fit.1 there before) (is_over w)
      where
        query : Lookup Visit
        query = looked_at turns site w

        next : Visit → Lookup Walk
        next v = walk turns sites (noted_in v w.fault)

        v : Visit
        v = outcome (looked_at turns site w) bank

        there : IsCursor scopes some deepest (around_after site a).scopes (noted_in v w.fault).cursor
        there = subst (IsCursor scopes some deepest (around_after site a).scopes) (sym (looked-cursor turns bank w site)) (site-cursor scopes some deepest site a w.cursor fit.0 cursor)

        by : ((u : Walk) → IsCursor scopes some deepest (around_after site a).scopes u.cursor → (before : List Key) → AreBehind scopes before (asked (walk turns sites u) bank))
            → (b : Bool) → AreBehind scopes earlier (asked (cond b (Done w) (and_then (looked_at turns site w) (λ v. walk turns sites (noted_in v w.fault)))) bank)
        by rest true = tt
        by rest false =
            subst (AreBehind scopes earlier) (sym (asked-and_then query next bank))
            (behind-append earlier (asked query bank) (asked (next v) bank) ((looked-ordered turns site w (cursor-first scopes some deepest a.scopes w.cursor cursor)).ordered bank earlier)
            (rest (noted_in v w.fault) there (earlier ++ asked query bank)))

    abbrev first_around : Around
    first_around = record { unions = 0; scopes = []; is_typed = false }

    unit-ordered : (t : Tree) → IsOrdered (walk turns (items (unit_parts t)) (placed_walk scopes t))
    unit-ordered t = record {
      ordered = λ bank earlier. walk-behind bank (items (unit_parts t)) (placed_walk scopes t) first_around ((unit-whole t).fit first_around) refl earlier;
    }

  -- ---- units

  refused-ordered : (tokens : List Token) (fault : Fault) → IsOrdered (refused tokens fault)
  refused-ordered tokens fault =
      option-ordered (opened_kind tokens) (Done (faulty fault (faulty_step tokens))) (λ kind. Ask Nameless (λ count. Done (faulty fault (faulty_step tokens)))) (done-ordered (faulty fault (faulty_step tokens)))
      (λ kind. ask-ordered Nameless _ tt (λ count. done-ordered (faulty fault (faulty_step tokens))))

  asking-ordered : (step : Step) (v : Verdict) → IsOrdered (asking step v)
  asking-ordered (Opens path kind) v = ask-ordered (Opened path) _ tt (λ count. done-ordered v)
  asking-ordered Stays v = done-ordered v
  asking-ordered (OpensNameless kind) v = done-ordered v
  asking-ordered Closes v = done-ordered v
  asking-ordered (Prefixes text) v = done-ordered v
  asking-ordered Enters v = done-ordered v
  asking-ordered Leaves v = done-ordered v

  judged-ordered : (tokens : List Token) (scopes : List Scope) (tree : Tree) (w : Walk) → IsOrdered (judged tokens scopes tree w)
  judged-ordered tokens scopes tree w = by w.fault
    where
      by : (o : Option Fault) → IsOrdered (elim o as (λ _. Lookup Verdict) [ Some fault ↦ refused tokens fault | None ↦ asking (step_of tree (path_around scopes)) (sound tokens scopes tree w) ])
      by (Some fault) = refused-ordered tokens fault
      by None = asking-ordered (step_of tree (path_around scopes)) (sound tokens scopes tree w)

  module _ (some : scopes ≢ []) (deepest : NoneInside scopes (path_around scopes)) (turns : ℕ) (tokens : List Token) where
    names-ordered : (tree : Tree) → IsOrdered (by_names turns tokens scopes tree)
    names-ordered tree = then-ordered (walk turns (items (unit_parts tree)) (placed_walk scopes tree)) _ (unit-ordered some deepest turns tree) (λ w. judged-ordered tokens scopes tree w)

    tree-ordered : (r : Result Tree Fault) → IsOrdered (by_tree turns tokens scopes r)
    tree-ordered (Err fault) = refused-ordered tokens fault
    tree-ordered (Ok tree) = names-ordered tree

    tokens-ordered : IsOrdered (token_verdict turns tokens scopes)
    tokens-ordered = tree-ordered (unit_tree tokens scopes)

  name-ordered : (turns : ℕ) (scopes : List Scope) (name : ScopedName) (change : Fixed) → IsOrdered (about 2 turns scopes name change)
  name-ordered turns scopes name change =
      then-ordered (denoted turns scopes name) _ (denoted-ordered turns scopes name)
      (λ r. result-ordered r _ _ (λ found. about-ordered (last_at 2 name) change found.entity) (λ fault. done-ordered (refused_for (unnamed_faults 2 name fault))))

  said-ordered : (turns : ℕ) (scopes : List Scope) (o : Option Pragma) → IsOrdered (said_by turns scopes o)
  said-ordered turns scopes None = record { ordered = λ bank earlier. tt }
  said-ordered turns scopes (Some (pragma.Prefix text)) = record { ordered = λ bank earlier. tt }
  said-ordered turns scopes (Some (pragma.Id name text)) =
      then-ordered (about 2 turns scopes name (Id text)) _ (name-ordered turns scopes name (Id text)) (λ s. done-ordered (with_faults (text_faults (last_at 2 name + 1) text) s))
  said-ordered turns scopes (Some (pragma.Version name major minor)) = name-ordered turns scopes name (Version major minor)

  pragma-ordered : (turns : ℕ) (tokens : List Token) (inside : Bool) (scopes : List Scope) → IsOrdered (pragma_judged turns tokens inside scopes)
  pragma-ordered turns tokens inside scopes = by (least_fault (pragma_faults tokens inside))
    where
      by : (o : Option Fault)
          → IsOrdered (elim o as (λ _. Lookup Verdict) [ Some fault ↦ Done (faulty fault Stays) | None ↦ and_then (said_by turns scopes (pragma_of tokens)) (λ s. Done (pragma_verdict s)) ])
      by (Some fault) = done-ordered (faulty fault Stays)
      by None = then-ordered (said_by turns scopes (pragma_of tokens)) _ (said-ordered turns scopes (pragma_of tokens)) (λ s. done-ordered (pragma_verdict s))

-- a unit asks for a name's use only behind what the scope declares the name as, and where none is open inside of that
pub verdict-ordered : (turns : ℕ) (text : UnitText) (bank : Key → Option Answer) → scopes_in (bank Cursor) ≢ [] → NoneInside (scopes_in (bank Cursor)) (path_around (scopes_in (bank Cursor)))
    → AreBehind (scopes_in (bank Cursor)) [] (asked (verdict turns text) bank)
unfolding verdict
verdict-ordered turns (unit.Tokens tokens) bank some deepest =
    let scopes : List Scope = scopes_in (bank Cursor) in (tt, (tokens-ordered scopes some deepest turns tokens).ordered bank (Cursor ∷ []))
verdict-ordered turns (unit.Pragma tokens inside) bank some deepest =
    let scopes : List Scope = scopes_in (bank Cursor) in (tt, (pragma-ordered scopes turns tokens inside scopes).ordered bank (Cursor ∷ []))
