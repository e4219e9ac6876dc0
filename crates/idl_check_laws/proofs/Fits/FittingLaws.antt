-- What a unit's verdict adds fits the facts before it.
use Rattle.std.proofs.Common.{◌≡◌, ℕ, ◌+◌, Bool, true, false, cond, List, [], ◌∷◌, Option, Some, None, Result, Ok, Err, refl, sym, subst, inl, inr}
use Rattle.idl_check_laws.proofs.Fits.ClosingLaws.{IsFitting, IsSettled, StepFits}
use Rattle.idl_check_laws.proofs.PragmaLaws.{faulty-pragma, spoken-pragma}
use Rattle.idl_check.proofs.Visits.VerdictLaws.{faulty-is, sound-is}
use Rattle.idl_check_laws.proofs.Fits.SettledLaws.{Once}
use Rattle.idl_check.specs.ids.Identifying.{changed}
use Rattle.idl_check.specs.walk.Judging.{IsSound}
use Rattle.idl_tree.specs.NameParts.{last_at}
use Rattle.idl_check.specs.walk.Placing.{faulty_step, opened_kind}
use Rattle.idl_check.specs.ids.About.{Said, about, about_entity, refused_for, said_at, unnamed_faults, with_faults}
use Rattle.idl_check.specs.ids.Pragmas.{said, text_faults}
use Rattle.idl_check.specs.tables.Rules.{has_id}
use Rattle.idl_fault.specs.declared.code.Code.TheVariants.{NoRepositoryId}
use Rattle.idl_unit.specs.TokenRules.{fault_at}
use Rattle.idl_check.specs.walk.Verdict.{verdict}
use Rattle.idl_check.specs.declared.walk.verdict.Verdict.{Verdict}
use Rattle.idl_lex.specs.tokens.Tokens.{Token}
use Rattle.idl_memo.proofs.QueryLaws.{outcome-and_then}
use Rattle.idl_memo.specs.Query.{Done, and_then, outcome}
use Rattle.idl_env.proofs.Membership.{IsIn}
use Rattle.idl_scope.proofs.Worlds.{addition_at-Some}
use Rattle.idl_env.specs.Facts.{UnitFacts, World, answers, entity_key, scopes_in, world, with_additions}
use Rattle.idl_scope.specs.Known.{known}
use Rattle.idl_scope.specs.Lookup.{Lookup, by_result, denoted}
use Rattle.idl_env.specs.Turns.{turns_for}
use Rattle.idl_env.specs.declared.additions.addition.Addition.TheVariants.{Declares, Identifies}
use Rattle.idl_env.specs.declared.additions.addition.Step.{Step}
use Rattle.idl_env.specs.declared.additions.addition.Step.TheVariants.{Stays, OpensNameless, Closes}
use Rattle.idl_env.specs.declared.answering.answer.Answer.{Answer}
use Rattle.idl_env.specs.declared.answering.answer.Scope.{Scope}
use Rattle.idl_entity.specs.declared.entity.Entity.{Entity}
use Rattle.idl_scope.specs.declared.fault.NameFault.{NameFault}
use Rattle.idl_scope.specs.declared.found.Found.{Found}
use Rattle.idl_entity.specs.declared.identity.Fixed.{Fixed}
use Rattle.idl_entity.specs.declared.identity.Fixed.TheVariants.{Version, Id}
use Rattle.idl_entity.specs.declared.identity.Identity.{Identity}
use Rattle.idl_env.specs.declared.keys.key.Key.{Key}
use Rattle.idl_env.specs.declared.keys.key.Key.TheVariants.{Cursor}
use Rattle.idl_entity.specs.declared.kind.Kind.{Kind}
use Rattle.idl_tree.specs.declared.name.ScopedName.{ScopedName}
use Rattle.idl_tree.specs.declared.pragma.Pragma.{Pragma}
use Rattle.idl_tree.specs.declared.pragma.Pragma.TheVariants as pragma
use Rattle.idl_unit.specs.declared.fault.Fault.{Fault}
use Rattle.idl_unit.specs.declared.unit.UnitText.{UnitText}
use Rattle.idl_unit.specs.declared.unit.UnitText.TheVariants as unit
use Rattle.idl_unit.specs.Ending.{rule_of}
use Rattle.idl_unit.specs.Scoping.{is_closing_by}

-- ---- what declares nothing, and opens no scope with a name

pub record IsCalm (f : UnitFacts) : Type 0 where
  pub once : Once f.additions
  pub nothing : (x : Entity) → IsIn (Declares x) f.additions → ⊥
  pub step : (w : World) → StepFits w f.step

pub calm-fits : (w : World) (f : UnitFacts) → IsCalm f → IsFitting w f
calm-fits w f c = record { once = c.once; added = λ x i. absurd (c.nothing x (addition_at-Some f.additions (entity_key x.path) (Declares x) i).0); step = c.step (with_additions f.additions w) }

calm-closing : (b : Bool) → (w : World) → StepFits w (cond b Closes Stays)
calm-closing true w = tt
calm-closing false w = tt

calm-opening : (o : Option Kind) (b : Bool) → (w : World) → StepFits w (elim o as (λ _. Step) [ None ↦ cond b Closes Stays | Some kind ↦ OpensNameless kind ])
calm-opening None b w = calm-closing b w
calm-opening (Some kind) b w = tt

pub faulty-calm : (tokens : List Token) → IsCalm (record { additions = []; step = faulty_step tokens })
faulty-calm tokens = record { once = tt; nothing = λ x i. i; step = calm-opening (opened_kind tokens) (is_closing_by (rule_of tokens)) }

-- ---- pragmas

abbrev CalmSaid : Said → Type 0
CalmSaid s = IsCalm (record { additions = s.additions; step = s.step })

refused-calm : (faults : List Fault) → CalmSaid (refused_for faults)
refused-calm faults = record { once = tt; nothing = λ x i. i; step = λ w. tt }

module _ (turns : ℕ) (bank : Key → Option Answer) where
  identified-calm : (at : ℕ) (change : Fixed) (e : Entity) (o : Option Identity)
      → CalmSaid (elim o as (λ _. Said) [ None ↦ refused_for [] | Some d ↦ said_at at change e.path d ])
  identified-calm at change e None = refused-calm []
  identified-calm at change e (Some d) = record { once = (refl, tt); nothing = nothing; step = λ w. tt }
    where
      nothing : (x : Entity) → IsIn (Declares x) (Identifies e.path (changed change d) ∷ []) → ⊥
      nothing x (inl h) = cc
      nothing x (inr h) = h

  abbrev about_by : ℕ → Fixed → Entity → Bool → Lookup Said
  about_by at change e b =
      cond b (and_then (known e.path) (λ d. Done (elim d as (λ _. Said) [ None ↦ refused_for [] | Some d ↦ said_at at change e.path d ])))
      (Done (refused_for (fault_at at NoRepositoryId ∷ [])))

  about-by : (at : ℕ) (change : Fixed) (e : Entity) (b : Bool) → CalmSaid (outcome (about_by at change e b) bank)
  about-by at change e true =
      let next : Option Identity → Lookup Said = λ d. Done (elim d as (λ _. Said) [ None ↦ refused_for [] | Some d ↦ said_at at change e.path d ]) in
      subst CalmSaid (sym (outcome-and_then (known e.path) next bank)) (identified-calm at change e (outcome (known e.path) bank))
  about-by at change e false = refused-calm (fault_at at NoRepositoryId ∷ [])

  named-by : (name : ScopedName) (change : Fixed) (r : Result Found NameFault)
      → CalmSaid (outcome (by_result r (λ found. about_entity (last_at 2 name) change found.entity) (λ fault. Done (refused_for (unnamed_faults 2 name fault)))) bank)
  named-by name change (Ok found) = about-by (last_at 2 name) change found.entity (has_id found.entity.kind)
  named-by name change (Err fault) = refused-calm (unnamed_faults 2 name fault)

  about-calm : (scopes : List Scope) (name : ScopedName) (change : Fixed) → CalmSaid (outcome (about 2 turns scopes name change) bank)
  about-calm scopes name change =
      let next : Result Found NameFault → Lookup Said = λ r. by_result r (λ found. about_entity (last_at 2 name) change found.entity) (λ fault. Done (refused_for (unnamed_faults 2 name fault))) in
      subst CalmSaid (sym (outcome-and_then (denoted turns scopes name) next bank)) (named-by name change (outcome (denoted turns scopes name) bank))

  said-calm : (scopes : List Scope) (p : Pragma) → CalmSaid (outcome (said turns scopes p) bank)
  said-calm scopes (pragma.Prefix text) = record { once = tt; nothing = λ x i. i; step = λ w. tt }
  said-calm scopes (pragma.Id name text) =
      let query = about 2 turns scopes name (Id text) in
      subst CalmSaid (sym (outcome-and_then query (λ s. Done (with_faults (text_faults (last_at 2 name + 1) text) s)) bank)) (about-calm scopes name (Id text))
  said-calm scopes (pragma.Version name major minor) = about-calm scopes name (Version major minor)

  pub pragma-calm : (tokens : List Token) (inside : Bool) → IsCalm (outcome (verdict turns (unit.Pragma tokens inside)) bank).writes
  pragma-calm tokens inside = by_fault (outcome (verdict turns (unit.Pragma tokens inside)) bank).fault refl
    where
      by_fault : (o : Option Fault) → (outcome (verdict turns (unit.Pragma tokens inside)) bank).fault ≡ o → IsCalm (outcome (verdict turns (unit.Pragma tokens inside)) bank).writes
      by_fault (Some f) h = subst (λ (v : Verdict). IsCalm v.writes) (sym (faulty-pragma turns tokens inside bank f h)) (record { once = tt; nothing = λ x i. i; step = λ w. tt })
      by_fault None h =
          let s = spoken-pragma turns tokens inside bank h in
          subst (λ (v : Verdict). IsCalm v.writes) (sym s.is) (said-calm (scopes_in (bank Cursor)) s.pragma)

-- ---- units

-- a unit, where what a sound one adds fits
pub unit-fits : (front : List UnitFacts) → IsSettled (world front)
    → ((tokens : List Token) (v : Verdict) → IsSound (turns_for front) (answers front) (scopes_in (answers front Cursor)) tokens v → IsFitting (world front) v.writes)
    → (text : UnitText) → IsFitting (world front) (outcome (verdict (turns_for front) text) (answers front)).writes
unit-fits front k sound (unit.Pragma tokens inside) =
    calm-fits (world front) (outcome (verdict (turns_for front) (unit.Pragma tokens inside)) (answers front)).writes (pragma-calm (turns_for front) (answers front) tokens inside)
unit-fits front k sound (unit.Tokens tokens) = by_fault (outcome (verdict (turns_for front) (unit.Tokens tokens)) (answers front)).fault refl
  where
    v : Verdict
    v = outcome (verdict (turns_for front) (unit.Tokens tokens)) (answers front)

    by_fault : (o : Option Fault) → v.fault ≡ o → IsFitting (world front) v.writes
    by_fault (Some f) h =
        subst (λ (u : Verdict). IsFitting (world front) u.writes) (sym (faulty-is (turns_for front) (answers front) tokens f h))
        (calm-fits (world front) (record { additions = []; step = faulty_step tokens }) (faulty-calm tokens))
    by_fault None h = sound tokens v (sound-is (turns_for front) (answers front) tokens h)
