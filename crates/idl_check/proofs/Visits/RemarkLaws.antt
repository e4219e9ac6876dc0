-- What is said of an entity: its faults stand at the last token of the name, and it tells of ids alone.
use Rattle.std.proofs.Common.{◌≡◌, ℕ, Bool, true, false, cond, List, [], ◌∷◌, Option, None, Some, refl, sym, subst}
use Rattle.std.proofs.lemmas.List.Elements.{All-cons, All-nil}
use Rattle.std.specs.Prelude.{All, ⊤}
use Rattle.idl_check.specs.ids.About.{Said, about_entity, refused_for, said_at}
use Rattle.idl_check.specs.ids.Identifying.{changed}
use Rattle.idl_check.specs.ids.Remarks.{about_scope, is_bad_text, prefixed_at, remark, said_by_text, unless}
use Rattle.idl_check.specs.tables.Rules.{has_id, is_fixed, is_given, is_prefixed}
use Rattle.idl_fault.specs.declared.code.Code.TheVariants.{NoRepositoryId, NoScope, RepeatedId, RepeatedTypeprefix, RepeatedVersion}
use Rattle.idl_memo.proofs.QueryLaws.{outcome-and_then}
use Rattle.idl_memo.specs.Query.{Ask, Done, and_then, outcome}
use Rattle.idl_entity.specs.Kind.{is_scope}
use Rattle.idl_entity.specs.declared.entity.Entity.{Entity}
use Rattle.idl_entity.specs.declared.identity.Fixed.{Fixed}
use Rattle.idl_entity.specs.declared.identity.Fixed.TheVariants.{Version, Id}
use Rattle.idl_entity.specs.declared.identity.Identity.{Identity}
use Rattle.idl_env.specs.Facts.{key_of, over, typeprefix_in}
use Rattle.idl_env.specs.declared.additions.addition.Addition.{Addition}
use Rattle.idl_env.specs.declared.additions.addition.Addition.TheVariants.{Appears, Declares, Identifies, TypePrefixes, Uses, UsesFurther}
use Rattle.idl_env.specs.declared.answering.answer.Answer.{Answer}
use Rattle.idl_env.specs.declared.keys.key.Key.{Key}
use Rattle.idl_env.specs.declared.keys.key.Key.TheVariants.{Declared, Introduced, Typeprefix}
use Rattle.idl_env.specs.keys.Key.{key_eq}
use Rattle.idl_parts.specs.declared.part.TextPurpose.{TextPurpose}
use Rattle.idl_parts.specs.declared.part.TextPurpose.TheVariants as purpose
use Rattle.idl_scope.proofs.FactsLaws.{outcome-under}
use Rattle.idl_scope.specs.Known.{known}
use Rattle.idl_scope.specs.Lookup.{Lookup, under}
use Rattle.idl_unit.specs.TokenRules.{fault_at}
use Rattle.idl_unit.specs.declared.fault.Fault.{Fault}
use Rattle.idl_check.proofs.Faults.FaultOrder.{all-at}
use Rattle.idl_check.specs.tables.Codes.{codes_in}

-- it tells of ids, and declares and introduces nothing
abbrev pub IsOfIds : Addition → Type 0
IsOfIds (Identifies path d) = ⊤
IsOfIds (TypePrefixes path text) = ⊤
IsOfIds other = ⊥

-- so it stands at no declared name
pub of-ids-apart : (a : Addition) (n : List ℕ) (q : List (List ℕ)) → IsOfIds a → key_eq (Declared n q) (key_of a) ≡ false
of-ids-apart (Identifies path d) n q h = refl
of-ids-apart (TypePrefixes path text) n q h = refl
of-ids-apart (Declares e) n q h = absurd h
of-ids-apart (Uses m path body) n q h = absurd h
of-ids-apart (Appears path prefix) n q h = absurd h
of-ids-apart (UsesFurther m path further) n q h = absurd h

-- nor at an introduced one
pub of-ids-unused : (a : Addition) (n : List ℕ) (q : List (List ℕ)) (body : ℕ) → IsOfIds a → key_eq (Introduced n q body) (key_of a) ≡ false
of-ids-unused (Identifies path d) n q body h = refl
of-ids-unused (TypePrefixes path text) n q body h = refl
of-ids-unused (Declares e) n q body h = absurd h
of-ids-unused (Uses m path other) n q body h = absurd h
of-ids-unused (Appears path prefix) n q body h = absurd h
of-ids-unused (UsesFurther m path further) n q body h = absurd h

abbrev pub StandsSo : ℕ → Fault → Type 0
StandsSo at f = f.index ≡ at

pub record IsRemark (at : ℕ) (s : Said) : Type 0 where
  pub faults : All (StandsSo at) s.faults
  pub adds : All IsOfIds s.additions

faulty-is : (at : ℕ) (fs : List Fault) → All (StandsSo at) fs → IsRemark at (refused_for fs)
faulty-is at fs all = record { faults = all; adds = All-nil IsOfIds }

said-is : (at : ℕ) (change : Fixed) (path : List (List ℕ)) (d : Identity) → IsRemark at (said_at at change path d)
said-is at (Id text) path d = record {
  faults = all-at (StandsSo at) at (λ c. refl) (codes_in ((is_given text path d, RepeatedId) ∷ []));
  adds = All-cons IsOfIds (Identifies path (changed (Id text) d)) [] tt (All-nil IsOfIds);
}
said-is at (Version major minor) path d = record {
  faults = all-at (StandsSo at) at (λ c. refl) (codes_in ((is_fixed d, RepeatedVersion) ∷ []));
  adds = All-cons IsOfIds (Identifies path (changed (Version major minor) d)) [] tt (All-nil IsOfIds);
}

unless-is : (at : ℕ) (b : Bool) (s : Said) → IsRemark at s → IsRemark at (unless b s)
unless-is at true s h = record { faults = h.faults; adds = All-nil IsOfIds }
unless-is at false s h = h

module _ (bank : Key → Option Answer) (at : ℕ) where
  identified-is : (change : Fixed) (path : List (List ℕ)) (o : Option Identity) → IsRemark at (elim o as (λ _. Said) [ None ↦ refused_for [] | Some d ↦ said_at at change path d ])
  identified-is change path None = faulty-is at [] (All-nil (StandsSo at))
  identified-is change path (Some d) = said-is at change path d

  entity-is : (change : Fixed) (e : Entity) → IsRemark at (outcome (about_entity at change e) bank)
  entity-is change e = by_kind (has_id e.kind)
    where
      by_kind : (b : Bool) → IsRemark at (outcome (cond b
          (and_then (known e.path) (λ d. Done (elim d as (λ _. Said) [ None ↦ refused_for [] | Some d ↦ said_at at change e.path d ])))
          (Done (refused_for (fault_at at NoRepositoryId ∷ [])))) bank)
      by_kind true =
          subst (IsRemark at) (sym (outcome-and_then (known e.path) (λ d. Done (elim d as (λ _. Said) [ None ↦ refused_for [] | Some d ↦ said_at at change e.path d ])) bank))
          (identified-is change e.path (outcome (known e.path) bank))
      by_kind false = faulty-is at (fault_at at NoRepositoryId ∷ []) (All-cons (StandsSo at) (fault_at at NoRepositoryId) [] refl (All-nil (StandsSo at)))

  scope-is : (text : List ℕ) (e : Entity) → IsRemark at (outcome (about_scope at text e) bank)
  scope-is text e = by_kind (is_scope e.kind)
    where
      query : Bool → Lookup Said
      query b = cond b (Ask (Typeprefix e.path) (λ answer. Done (prefixed_at at text e.path answer))) (Done (refused_for (fault_at at NoScope ∷ [])))

      by_kind : (b : Bool) → IsRemark at (outcome (query b) bank)
      by_kind true = record {
        faults = all-at (StandsSo at) at (λ c. refl) (codes_in ((is_prefixed (typeprefix_in (bank (Typeprefix e.path))), RepeatedTypeprefix) ∷ []));
        adds = All-cons IsOfIds (TypePrefixes e.path text) [] tt (All-nil IsOfIds);
      }
      by_kind false = faulty-is at (fault_at at NoScope ∷ []) (All-cons (StandsSo at) (fault_at at NoScope) [] refl (All-nil (StandsSo at)))

  text-is : (p : TextPurpose) (text : List ℕ) (e : Entity) → IsRemark at (outcome (said_by_text p at text e) bank)
  text-is purpose.Context text e = faulty-is at [] (All-nil (StandsSo at))
  text-is purpose.Id text e = entity-is (Id text) e
  text-is purpose.Prefix text e = scope-is text e

  plain-is : (p : TextPurpose) (text : List ℕ) (e : Entity) → IsRemark at (outcome (remark p at text e) bank)
  plain-is p text e =
      let bad = is_bad_text p text in
      subst (IsRemark at) (sym (outcome-and_then (said_by_text p at text e) (λ s. Done (unless bad s)) bank))
      (unless-is at bad (outcome (said_by_text p at text e) bank) (text-is p text e))

-- under what the unit's earlier tokens add
pub remark-is : (own : List Addition) (answers : Key → Option Answer) (p : TextPurpose) (at : ℕ) (text : List ℕ) (e : Entity) → IsRemark at (outcome (under own (remark p at text e)) answers)
remark-is own answers p at text e =
    subst (IsRemark at) (sym (outcome-under own answers (remark p at text e))) (plain-is (λ k. over own k (answers k)) at p text e)
