-- A walk over the sites of a unit asks what it adds.
use Rattle.std.proofs.Common.{◌≡◌, ℕ, ◌+◌, Bool, true, false, cond, List, [], ◌∷◌, Option, Some, None, Result, Ok, Err, refl, sym, ap, ◌∙◌, subst, inl, inr}
use Rattle.std.specs.Prelude.{All, Contains, drop}
use Rattle.std.proofs.lemmas.List.Elements.{All-head, All-nil}
use Rattle.idl_check_laws.proofs.IdlCheck.UseLemmas.{DeclareNone}
use Rattle.idl_check_laws.specs.idl_check.ids.About.{Said, about_entity, refused_for, said_at}
use Rattle.idl_check_laws.specs.idl_check.ids.Remarks.{about_scope, is_bad_text, prefixed_at, purpose_of, remark, said_by_text, unless}
use Rattle.idl_check_laws.specs.idl_check.tables.Declaring.{entity_of, standing}
use Rattle.idl_check_laws.specs.idl_check.tables.Rules.{has_id, is_useless_default}
use Rattle.idl_check_laws.specs.idl_check.tables.Using.{last_after, with_uses}
use Rattle.idl_check_laws.specs.idl_check.told.Bodies.{Body, begun_body, told_innermost}
use Rattle.idl_check_laws.specs.idl_check.told.Types.{looked_through}
use Rattle.idl_check_laws.specs.idl_check.declared.tables.standing.Standing.{Standing}
use Rattle.idl_check_laws.specs.idl_check.walk.Walk.{Visit, Walk, cut_name, declared_visit, ended_scope, faulty_if, head_of, head_visit, is_begun, is_known, is_over, looked_at, noted_in, outcome_at, passed, past_name, quiet, scope_visit, spoken_of, spoken_visit, turns_at, unfound_visit, unspoken_visit, used, used_visit, value_visit, visit, walk}
use Rattle.idl_entity.specs.Kind.{is_scope, kind_eq}
use Rattle.idl_entity.specs.Path.{name_of}
use Rattle.idl_entity.specs.declared.entity.Entity.{Entity}
use Rattle.idl_entity.specs.declared.identity.Fixed.{Fixed}
use Rattle.idl_entity.specs.declared.identity.Fixed.TheVariants.{Id}
use Rattle.idl_entity.specs.declared.identity.Identity.{Identity}
use Rattle.idl_entity.specs.declared.kind.Kind.TheVariants.{Union}
use Rattle.idl_env.proofs.Membership.{IsIn, IsIn-left}
use Rattle.idl_env.specs.Facts.{entity_key, over}
use Rattle.idl_env.specs.declared.additions.addition.Addition.{Addition}
use Rattle.idl_env.specs.declared.answering.answer.Answer.{Answer}
use Rattle.idl_env.specs.declared.answering.answer.Scope.{Scope}
use Rattle.idl_env.specs.declared.keys.key.Key.{Key}
use Rattle.idl_env.specs.declared.keys.key.Key.TheVariants.{Declared, Typeprefix}
use Rattle.idl_fault.specs.declared.code.Code.TheVariants.{NoRepositoryId, NoScope, UselessDefault}
use Rattle.idl_block.proofs.FactLaws.Seen.Sees.{Sees, sees-first, sees-second}
use Rattle.idl_lex.specs.kinds.Keywords.{folded}
use Rattle.idl_memo.proofs.QueryLaws.{outcome-and_then}
use Rattle.idl_memo.specs.Query.{Ask, Done, and_then, asked, outcome}
use Rattle.idl_parts.specs.Item.{Item}
use Rattle.idl_parts.specs.Part.{Part as item}
use Rattle.idl_parts.specs.declared.part.Declaration.{Declaration}
use Rattle.idl_parts.specs.declared.part.Purpose.{Purpose}
use Rattle.idl_parts.specs.declared.part.Purpose.TheVariants as purpose
use Rattle.idl_parts.specs.declared.part.TextPurpose.{TextPurpose}
use Rattle.idl_parts.specs.declared.part.TextPurpose.TheVariants as text
use Rattle.idl_parts.specs.declared.part.Use.{Use}
use Rattle.idl_scope.proofs.FactsLaws.{asked-under, outcome-under}
use Rattle.idl_scope.specs.Known.{known}
use Rattle.idl_scope.specs.Lookup.{Lookup, by_result, denoted, under}
use Rattle.idl_scope.specs.declared.fault.NameFault.{NameFault}
use Rattle.idl_scope.specs.declared.fault.NameFault.TheVariants.{At, Memory}
use Rattle.idl_scope.specs.declared.found.Found.{Found}
use Rattle.idl_tree.specs.NameParts.{last_at}
use Rattle.idl_tree.specs.declared.name.ScopedName.{ScopedName}
use Rattle.idl_unit.specs.TokenRules.{fault_at, first}
use Rattle.idl_value.specs.declared.outcome.Outcome.{Outcome}
use Rattle.idl_value.specs.declared.outcome.Outcome.TheVariants as outcome_is
use Rattle.idl_root_blocks.specs.verdicts.Owned.{AreOwned}
use Rattle.idl_root_blocks.proofs.VerdictLaws.Finds.{denoted-finds}
use Rattle.idl_root_blocks.proofs.VerdictLaws.Knows.{BegunKnown, IsKnown, Knows, array-known, array_bodies-known, bases-known, begun-more, innermost-told, known-declared, known-fold, known-uses, label-known, last-known, member-known, own-known, owned-over}

-- ---- what is said of names declares nothing

module _ (bank : Key → Option Answer) where
  pub entity-none : (at : ℕ) (change : Fixed) (e : Entity) → DeclareNone (outcome (about_entity at change e) bank).additions
  entity-none at change e = by (has_id e.kind)
    where
      none : (o : Option Identity) → DeclareNone (elim o as (λ _. Said) [ None ↦ refused_for [] | Some d ↦ said_at at change e.path d ]).additions
      none None = tt
      none (Some d) = (λ m q. refl, tt)

      by : (b : Bool)
          → DeclareNone (outcome (cond b (and_then (known e.path) (λ d. Done (elim d as (λ _. Said) [ None ↦ refused_for [] | Some d ↦ said_at at change e.path d ]))) (Done (refused_for (fault_at at NoRepositoryId ∷ [])))) bank).additions
      by true =
          subst (λ (s : Said). DeclareNone s.additions) (sym (outcome-and_then (known e.path) (λ d. Done (elim d as (λ _. Said) [ None ↦ refused_for [] | Some d ↦ said_at at change e.path d ])) bank))
          (none (outcome (known e.path) bank))
      by false = tt

  abbrev scope_by : ℕ → List ℕ → Entity → Bool → Lookup Said
  scope_by at prefix e b = cond b (Ask (Typeprefix e.path) (λ answer. Done (prefixed_at at prefix e.path answer))) (Done (refused_for (fault_at at NoScope ∷ [])))

  scope-none : (at : ℕ) (prefix : List ℕ) (e : Entity) → DeclareNone (outcome (about_scope at prefix e) bank).additions
  scope-none at prefix e = by (is_scope e.kind)
    where
      by : (b : Bool) → DeclareNone (outcome (scope_by at prefix e b) bank).additions
      by true = (λ m q. refl, tt)
      by false = tt

  text-none : (purpose : TextPurpose) (at : ℕ) (t : List ℕ) (e : Entity) → DeclareNone (outcome (said_by_text purpose at t e) bank).additions
  text-none text.Context at t e = tt
  text-none text.Id at t e = entity-none at (Id t) e
  text-none text.Prefix at t e = scope-none at t e

  remark-none : (purpose : TextPurpose) (at : ℕ) (t : List ℕ) (e : Entity) → DeclareNone (outcome (remark purpose at t e) bank).additions
  remark-none purpose at t e =
      let query : Lookup Said = said_by_text purpose at t e in
      subst (λ (s : Said). DeclareNone s.additions) (sym (outcome-and_then query (λ s. Done (unless (is_bad_text purpose t) s)) bank)) (by (is_bad_text purpose t) (outcome query bank) (text-none purpose at t e))
    where
      by : (b : Bool) (s : Said) → DeclareNone s.additions → DeclareNone (unless b s).additions
      by true s none = tt
      by false s none = none

module _ (bank : Key → Option Answer) (owned : AreOwned bank) (keys : List Key) (init : List Entity) (turns : ℕ) where
  abbrev Goes : Visit → Type 0
  Goes v = Knows keys init v.after

  -- the answers with what a unit has added
  abbrev there : List Addition → Key → Option Answer
  there own k = over own k (bank k)

  sees-under : {A : Type 0} (own : List Addition) (query : Lookup A) → Sees bank keys (under own query) → Sees (there own) keys query
  sees-under own query sees = subst (All (Contains keys)) (asked-under own bank query) sees

  -- what a name denotes was asked
  name-asked : (w : Walk) (t : ℕ) (name : ScopedName) (found : Found) → Sees bank keys (under w.own (denoted t w.cursor name)) → outcome (under w.own (denoted t w.cursor name)) bank ≡ Ok found
      → Contains keys (entity_key found.entity.path)
  name-asked w t name found sees is =
      denoted-finds (there w.own) (owned-over w.own bank owned) keys t w.cursor name (sees-under w.own (denoted t w.cursor name) sees) found
      (sym (outcome-under w.own bank (denoted t w.cursor name)) ∙ is)

  -- ---- names

  unfound-goes : (way : Use) (name : ScopedName) (w : Walk) (fault : NameFault) → Knows keys init w → Goes (unfound_visit w way name fault)
  unfound-goes way name w (At why part) k = record { own = k.own; begun = k.begun; last = k.last; bases = k.bases; bodies = k.bodies; kept = k.kept }
  unfound-goes way name w Memory k = k

  abbrev first_query : ScopedName → Walk → Lookup (Result Found NameFault)
  first_query name w = under w.own (denoted (turns_at turns w) w.cursor name)

  abbrev used_next : Use → ScopedName → Walk → Result Found NameFault → Lookup Visit
  used_next way name w r =
      by_result r (λ found. and_then (under w.own (looked_through (turns_at turns w) way found.entity)) (λ behind. Done (used_visit w way name found behind)))
      (λ fault. Done (unfound_visit w way name fault))

  found-goes : (way : Use) (name : ScopedName) (w : Walk) (found : Found) (behind : Entity) → Knows keys init w → Contains keys (entity_key found.entity.path) → Goes (used_visit w way name found behind)
  found-goes way name w found behind k here =
      let last = last-known keys way found.entity.path w.last here k.last in
      record {
        own =
            own-known keys way (last_after way found.entity.path w.last) (with_uses (folded name.first) found.reach w.cursor w.own) last
            (known-uses keys (folded name.first) found.reach w.cursor w.own k.own);
        begun = k.begun;
        last = last;
        bases = bases-known keys way found.entity w.bases here k.bases;
        bodies = k.bodies;
        kept = k.kept;
      }

  used-goes : (way : Use) (name : ScopedName) (w : Walk) → Knows keys init w → Sees bank keys (used turns way name w) → Goes (outcome (used turns way name w) bank)
  unfolding used
  used-goes way name w k sees = by (outcome (first_query name w) bank) refl (sees-first bank keys (first_query name w) (used_next way name w) sees)
    where
      by : (r : Result Found NameFault) → outcome (first_query name w) bank ≡ r → Sees bank keys (first_query name w) → Goes (outcome (and_then (first_query name w) (used_next way name w)) bank)
      by (Ok found) is sees =
          let through : Lookup Entity = under w.own (looked_through (turns_at turns w) way found.entity) in
          subst Goes
          (sym (outcome-and_then (first_query name w) (used_next way name w) bank ∙ ap (λ r. outcome (used_next way name w r) bank) is ∙ outcome-and_then through (λ behind. Done (used_visit w way name found behind)) bank))
          (found-goes way name w found (outcome through bank) k (name-asked w (turns_at turns w) name found sees is))
      by (Err fault) is sees =
          subst Goes (sym (outcome-and_then (first_query name w) (used_next way name w) bank ∙ ap (λ r. outcome (used_next way name w r) bank) is)) (unfound-goes way name w fault k)

  abbrev spoken_next : TextPurpose → ScopedName → Walk → Result Found NameFault → Lookup Visit
  spoken_next purpose name w r =
      by_result r (λ found. and_then (under w.own (remark purpose (last_at w.at name) w.text found.entity)) (λ s. Done (spoken_visit w name found s))) (λ fault. Done (unspoken_visit w name fault))

  said-goes : (name : ScopedName) (w : Walk) (found : Found) (s : Said) → Knows keys init w → DeclareNone s.additions → Goes (spoken_visit w name found s)
  said-goes name w found s k none = record { own = known-fold keys w.own s.additions k.own none; begun = k.begun; last = k.last; bases = k.bases; bodies = k.bodies; kept = k.kept }

  spoken-goes : (purpose : TextPurpose) (name : ScopedName) (w : Walk) → Knows keys init w → Goes (outcome (spoken_of turns purpose name w) bank)
  unfolding spoken_of
  spoken-goes purpose name w k = by (outcome (first_query name w) bank) refl
    where
      by : (r : Result Found NameFault) → outcome (first_query name w) bank ≡ r → Goes (outcome (and_then (first_query name w) (spoken_next purpose name w)) bank)
      by (Ok found) is =
          let said : Lookup Said = remark purpose (last_at w.at name) w.text found.entity in
          subst Goes
          (sym (outcome-and_then (first_query name w) (spoken_next purpose name w) bank ∙ ap (λ r. outcome (spoken_next purpose name w r) bank) is ∙ outcome-and_then (under w.own said) (λ s. Done (spoken_visit w name found s)) bank))
          (said-goes name w found (outcome (under w.own said) bank) k
          (subst (λ (s : Said). DeclareNone s.additions) (sym (outcome-under w.own bank said)) (remark-none (there w.own) purpose (last_at w.at name) w.text found.entity)))
      by (Err fault) is =
          subst Goes (sym (outcome-and_then (first_query name w) (spoken_next purpose name w) bank ∙ ap (λ r. outcome (spoken_next purpose name w r) bank) is))
          (record { own = k.own; begun = k.begun; last = k.last; bases = k.bases; bodies = k.bodies; kept = k.kept })

  cut-goes : (way : Use) (name : ScopedName) (w : Walk) → Knows keys init w → Sees bank keys (cut_name turns way name w) → Goes (outcome (cut_name turns way name w) bank)
  unfolding cut_name
  cut-goes way name w k sees = by name.is_global name.rest sees
    where
      past : (v : Walk) → v ≡ past_name name w → Knows keys init v
      past v is = subst (Knows keys init) (sym is) (record { own = k.own; begun = k.begun; last = k.last; bases = k.bases; bodies = k.bodies; kept = k.kept })

      by : (b : Bool) (rest : List (List ℕ))
          → Sees bank keys (cond b (Done (quiet (past_name name w))) (elim rest as (λ _. Lookup Visit) [ [] ↦ used turns way name w | part ∷ parts ↦ and_then (under w.own (denoted (turns_at turns w) w.cursor (head_of name))) (λ r. Done (head_visit name w r)) ]))
          → Goes (outcome (cond b (Done (quiet (past_name name w))) (elim rest as (λ _. Lookup Visit) [ [] ↦ used turns way name w | part ∷ parts ↦ and_then (under w.own (denoted (turns_at turns w) w.cursor (head_of name))) (λ r. Done (head_visit name w r)) ])) bank)
      by true rest sees = past (past_name name w) refl
      by false [] sees = used-goes way name w k sees
      by false (part ∷ parts) sees =
          let q : Lookup (Result Found NameFault) = under w.own (denoted (turns_at turns w) w.cursor (head_of name)) in
          subst Goes (sym (outcome-and_then q (λ r. Done (head_visit name w r)) bank)) (past (past_name name w) refl)

  -- ---- declared names

  head-asked : (asks : List Key) (k : Key) → All (Contains keys) asks → first asks ≡ Some k → Contains keys k
  head-asked [] k all is = cc
  head-asked (x ∷ asks) k all is = let same : x ≡ k = cc in subst (Contains keys) same (All-head (Contains keys) x asks all)

  standing-asked : (own : List Addition) (t : ℕ) (s : Scope) (e : Entity) → Sees bank keys (under own (standing t s e)) → Contains keys (Declared (folded (name_of e.path)) s.path)
  standing-asked own t s e sees = head-asked (asked (under own (standing t s e)) bank) (Declared (folded (name_of e.path)) s.path) sees refl

  declared-goes : (way : Declaration) (name : List ℕ) (w : Walk) → Knows keys init w → Sees bank keys (looked_at turns (item.Declares way name) w) → Goes (outcome (looked_at turns (item.Declares way name) w) bank)
  unfolding visit
  declared-goes way name w k sees = by (first w.cursor) sees
    where
      by : (o : Option Scope)
          → Sees bank keys (elim o as (λ _. Lookup Visit) [
            | None ↦ Done (quiet (passed 1 w))
            | Some s ↦ and_then (under w.own (standing (turns_at turns w) s (entity_of w.written way name s.path))) (λ there. Done (declared_visit w way s (entity_of w.written way name s.path) there))
          ])
          → Goes (outcome (elim o as (λ _. Lookup Visit) [
            | None ↦ Done (quiet (passed 1 w))
            | Some s ↦ and_then (under w.own (standing (turns_at turns w) s (entity_of w.written way name s.path))) (λ there. Done (declared_visit w way s (entity_of w.written way name s.path) there))
          ]) bank)
      by None sees = record { own = k.own; begun = k.begun; last = k.last; bases = k.bases; bodies = k.bodies; kept = k.kept }
      by (Some s) sees =
          let e : Entity = entity_of w.written way name s.path in
          let query : Lookup Standing = under w.own (standing (turns_at turns w) s e) in
          let next : Standing → Lookup Visit = λ there. Done (declared_visit w way s e there) in
          let here : IsKnown keys e = (standing-asked w.own (turns_at turns w) s e (sees-first bank keys query next sees), All-nil (λ b. Contains keys (entity_key b))) in
          subst Goes (sym (outcome-and_then query next bank)) (record {
            own = known-declared keys (outcome query bank) e w.own k.own here;
            begun = begun-more keys w.begun (cond (is_begun e) (e ∷ []) []) k.begun (one (is_begun e) e here);
            last = λ x is. (let same : e ≡ x = cc in subst (IsKnown keys) same here);
            bases = k.bases;
            bodies = member-known keys way e w.bodies k.bodies;
            kept = λ x i. IsIn-left x w.begun (cond (is_begun e) (e ∷ []) []) (k.kept x i);
          })
        where
          one : (b : Bool) (e : Entity) → IsKnown keys e → BegunKnown keys (cond b (e ∷ []) [])
          one true e here x (inl is) = subst (IsKnown keys) is here
          one true e here x (inr i) = absurd i
          one false e here x i = absurd i

  -- ---- all sites

  scope-goes : (w : Walk) → Knows keys init w → Goes (scope_visit w)
  scope-goes w k = by (first w.cursor)
    where
      ended : Knows keys init (ended_scope w)
      ended = record {
        own = k.own;
        begun = begun-more keys w.begun (told_innermost w.clauses w.bodies) k.begun (innermost-told keys w.clauses w.bodies k.bodies);
        last = k.last;
        bases = k.bases;
        bodies = dropped w.bodies k.bodies;
        kept = λ x i. IsIn-left x w.begun (told_innermost w.clauses w.bodies) (k.kept x i);
      }
        where
          dropped : (bodies : List Body) → ((b : Body) → IsIn b bodies → (e : Entity) → b.entity ≡ Some e → IsKnown keys e) → (b : Body) → IsIn b (drop 1 bodies) → (e : Entity) → b.entity ≡ Some e → IsKnown keys e
          dropped [] known b i = known b i
          dropped (c ∷ bodies) known b i = known b (inr i)

      by : (o : Option Scope) → Goes (elim o as (λ _. Visit) [ None ↦ quiet w | Some s ↦ cond (kind_eq s.kind Union) (faulty_if (is_useless_default w.unions) UselessDefault w (record (ended_scope w) { unions = drop 1 w.unions })) (quiet (ended_scope w)) ])
      by None = k
      by (Some s) = on (kind_eq s.kind Union)
        where
          on : (b : Bool) → Goes (cond b (faulty_if (is_useless_default w.unions) UselessDefault w (record (ended_scope w) { unions = drop 1 w.unions })) (quiet (ended_scope w)))
          on true = record { own = ended.own; begun = ended.begun; last = ended.last; bases = ended.bases; bodies = ended.bodies; kept = ended.kept }
          on false = ended

  value-goes : (w : Walk) (way : Purpose) (o : Outcome) → Knows keys init w → Goes (value_visit w way o)
  value-goes w purpose.Label (outcome_is.Value v) k =
      record { own = k.own; begun = k.begun; last = k.last; bases = k.bases; bodies = label-known keys (Some v) w.bodies k.bodies; kept = k.kept }
  value-goes w other (outcome_is.Value v) k = record { own = k.own; begun = k.begun; last = k.last; bases = k.bases; bodies = k.bodies; kept = k.kept }
  value-goes w way (outcome_is.Fault f) k = record { own = k.own; begun = k.begun; last = k.last; bases = k.bases; bodies = k.bodies; kept = k.kept }
  value-goes w way outcome_is.Told k = record { own = k.own; begun = k.begun; last = k.last; bases = k.bases; bodies = k.bodies; kept = k.kept }

  pub site-goes : (site : Item) (w : Walk) → Knows keys init w → Sees bank keys (looked_at turns site w) → Goes (outcome (looked_at turns site w) bank)
  unfolding visit
  site-goes (item.Uses way name) w k sees = by (purpose_of way) sees
    where
      by : (o : Option TextPurpose)
          → Sees bank keys (elim o as (λ _. Lookup Visit) [ None ↦ cond (is_known (w.at + 1) w) (cut_name turns way name w) (used turns way name w) | Some purpose ↦ spoken_of turns purpose name w ])
          → Goes (outcome (elim o as (λ _. Lookup Visit) [ None ↦ cond (is_known (w.at + 1) w) (cut_name turns way name w) (used turns way name w) | Some purpose ↦ spoken_of turns purpose name w ]) bank)
      by None sees = on (is_known (w.at + 1) w) sees
        where
          on : (b : Bool) → Sees bank keys (cond b (cut_name turns way name w) (used turns way name w)) → Goes (outcome (cond b (cut_name turns way name w) (used turns way name w)) bank)
          on true sees = cut-goes way name w k sees
          on false sees = used-goes way name w k sees
      by (Some purpose) sees = spoken-goes purpose name w k
  site-goes (item.Declares way name) w k sees = declared-goes way name w k sees
  site-goes (item.ScopeBegins way name) w k sees = record {
    own = k.own;
    begun = k.begun;
    last = k.last;
    bases = k.bases;
    bodies = λ b i. begins b i;
    kept = k.kept;
  }
    where
      begins : (b : Body) → IsIn b (begun_body w.last w.written.data_type ∷ w.bodies) → (e : Entity) → b.entity ≡ Some e → IsKnown keys e
      begins b (inl is) e has = k.last e (ap (λ (x : Body). x.entity) is ∙ has)
      begins b (inr i) e has = k.bodies b i e has
  site-goes item.ScopeEnds w k sees = scope-goes w k
  site-goes item.ValueBegins w k sees = record { own = k.own; begun = k.begun; last = k.last; bases = k.bases; bodies = k.bodies; kept = k.kept }
  site-goes (item.ValueEnds way expression) w k sees = value-goes w way (outcome_at w way expression) k
  site-goes (item.TypeEnds shape) w k sees = record { own = k.own; begun = k.begun; last = k.last; bases = k.bases; bodies = k.bodies; kept = k.kept }
  site-goes item.ArrayEnds w k sees = record {
    own = array-known keys w.values.lengths w.last w.own k.last k.own;
    begun = k.begun;
    last = k.last;
    bases = k.bases;
    bodies = array_bodies-known keys w.values.lengths w.last w.bodies k.bodies;
    kept = k.kept;
  }
  site-goes (item.Enumerates names) w k sees = record { own = k.own; begun = k.begun; last = k.last; bases = k.bases; bodies = k.bodies; kept = k.kept }
  site-goes (item.Identifies text) w k sees = record { own = k.own; begun = k.begun; last = k.last; bases = k.bases; bodies = k.bodies; kept = k.kept }
  site-goes (item.Switches discrete) w k sees = record { own = k.own; begun = k.begun; last = k.last; bases = k.bases; bodies = k.bodies; kept = k.kept }
  site-goes item.Default w k sees = record { own = k.own; begun = k.begun; last = k.last; bases = k.bases; bodies = label-known keys None w.bodies k.bodies; kept = k.kept }
  site-goes item.GivesBack w k sees = k
  site-goes (item.Plain n) w k sees = record { own = k.own; begun = k.begun; last = k.last; bases = k.bases; bodies = k.bodies; kept = k.kept }
  site-goes (item.Says purpose text) w k sees = record { own = k.own; begun = k.begun; last = k.last; bases = k.bases; bodies = k.bodies; kept = k.kept }

  -- a walk
  pub walk-goes : (sites : List Item) (w : Walk) → Knows keys init w → Sees bank keys (walk turns sites w) → Knows keys init (outcome (walk turns sites w) bank)
  unfolding walk
  walk-goes [] w k sees = k
  walk-goes (site ∷ sites) w k sees = by (λ v known sees. walk-goes sites v known sees) (is_over w) sees
    where
      by : ((v : Walk) → Knows keys init v → Sees bank keys (walk turns sites v) → Knows keys init (outcome (walk turns sites v) bank))
          → (b : Bool) → Sees bank keys (cond b (Done w) (and_then (looked_at turns site w) (λ v. walk turns sites (noted_in v w.fault))))
          → Knows keys init (outcome (cond b (Done w) (and_then (looked_at turns site w) (λ v. walk turns sites (noted_in v w.fault)))) bank)
      by rest true sees = k
      by rest false sees =
          let query : Lookup Visit = looked_at turns site w in
          let next : Visit → Lookup Walk = λ v. walk turns sites (noted_in v w.fault) in
          let v : Visit = outcome query bank in
          let one : Knows keys init v.after = site-goes site w k (sees-first bank keys query next sees) in
          subst (Knows keys init) (sym (outcome-and_then query next bank))
          (rest (noted_in v w.fault) (record { own = one.own; begun = one.begun; last = one.last; bases = one.bases; bodies = one.bodies; kept = one.kept }) (sees-second bank keys query next v refl sees))
