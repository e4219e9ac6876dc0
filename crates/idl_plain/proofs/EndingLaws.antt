-- A unit ends where its first tokens and its braces say.
use Rattle.std.proofs.Common.{◌≡◌, ◌∙◌, Bool, true, false, cond, List, [], ◌∷◌, ◌++◌, Option, None, Some, refl, sym, ap, map}
use Rattle.std.specs.Prelude.{◌&&◌, ◌||◌, not}
use Rattle.idl_check.specs.walk.Placing.{faulty_step, opened_kind}
use Rattle.idl_entity.specs.declared.kind.Kind.{Kind}
use Rattle.idl_env.specs.declared.additions.addition.Step.{Step}
use Rattle.idl_env.specs.declared.additions.addition.Step.TheVariants.{Closes, OpensNameless, Stays}
use Rattle.idl_lex.specs.tokens.Tokens.{Token}
use Rattle.idl_plain.specs.Ending.{ends_before, is_heading, is_level}
use Rattle.idl_unit.specs.Ending.{begins, closes, ends, ends_by, ends_in, is_empty, is_interface, is_semicolon, opens, role, rule_by, rule_of}
use Rattle.idl_unit.specs.Scoping.{brace_by, brace_from, is_closing_by, opening_brace}
use Rattle.idl_unit.specs.declared.role.Role.{Role}
use Rattle.idl_unit.specs.declared.role.Role.TheVariants.{CloseBrace, Interface, Local, Module, OpenBrace, Other, Semicolon}
use Rattle.idl_unit.specs.declared.role.Rule.{Rule}
use Rattle.idl_unit.specs.declared.role.Rule.TheVariants.{Closing, Declaration, Heading}

-- whether a unit ends that is a heading or not, and no closing
abbrev by : Bool → List Token → List Token → Bool
by h unit rest = is_empty rest || ((h || is_level unit) && (begins closes rest || (ends_in is_semicolon unit || (h && ends_in opens unit))))

or-false : (a : Bool) → (a || false) ≡ a
or-false true = refl
or-false false = refl

turned : (e c s o : Bool) → (e || (c || (s || o))) ≡ (((e || c) || o) || s)
turned true c s o = refl
turned false true s o = refl
turned false false true true = refl
turned false false false true = refl
turned false false true false = refl
turned false false false false = refl

by-rule : (h : Bool) (unit rest : List Token) → by h unit rest ≡ ends_by (cond h Heading Declaration) unit rest
by-rule true unit rest = turned (is_empty rest) (begins closes rest) (ends_in is_semicolon unit) (ends_in opens unit)
by-rule false unit rest = ap (λ b. is_empty rest || (is_level unit && (begins closes rest || b))) (or-false (ends_in is_semicolon unit))

next-local : (r : Role) (roles : List Role) → is_heading (Local ∷ r ∷ roles) ≡ is_interface r
next-local Interface roles = refl
next-local OpenBrace roles = refl
next-local CloseBrace roles = refl
next-local Semicolon roles = refl
next-local Module roles = refl
next-local Local roles = refl
next-local Other roles = refl

heads-local : (ts : List Token) → is_heading (Local ∷ map role ts) ≡ begins is_interface ts
heads-local [] = refl
heads-local (t ∷ ts) = next-local (role t) (map role ts)

-- by the role of the first token, behind which these stand
by-role : (r : Role) (ts unit rest : List Token)
    → cond (closes r) (ends_in is_semicolon unit || not (begins is_semicolon rest)) (by (is_heading (r ∷ map role ts)) unit rest)
    ≡ ends_by (rule_by r ts) unit rest
by-role CloseBrace ts unit rest = refl
by-role Module ts unit rest = by-rule true unit rest
by-role Interface ts unit rest = by-rule true unit rest
by-role Local ts unit rest = ap (λ h. by h unit rest) (heads-local ts) ∙ by-rule (begins is_interface ts) unit rest
by-role OpenBrace ts unit rest = by-rule false unit rest
by-role Semicolon ts unit rest = by-rule false unit rest
by-role Other ts unit rest = by-rule false unit rest

-- nothing ends before a rest that begins with a token of this role
abbrev nothing : Rule → Role → Bool
nothing Closing r = not (is_semicolon r)
nothing Heading r = (closes r || false) || false
nothing Declaration r = closes r || false

nothing-ends : (rule : Rule) (t : Token) (ts : List Token) → nothing rule (role t) ≡ ends_by rule [] (t ∷ ts)
nothing-ends Closing t ts = refl
nothing-ends Heading t ts = refl
nothing-ends Declaration t ts = refl

nothing-local : (h : Bool) → false ≡ nothing (cond h Heading Declaration) Local
nothing-local true = refl
nothing-local false = refl

local-head : (h : Bool) → ((h || true) && (false || (false || (h && false)))) ≡ false
local-head true = refl
local-head false = refl

nothing-by : (r : Role) (ts : List Token) → ((is_heading (r ∷ map role ts) || true) && (closes r || (false || (is_heading (r ∷ map role ts) && false)))) ≡ nothing (rule_by r ts) r
nothing-by CloseBrace ts = refl
nothing-by Module ts = refl
nothing-by Interface ts = refl
nothing-by Local ts = local-head (is_heading (Local ∷ map role ts)) ∙ nothing-local (begins is_interface ts)
nothing-by OpenBrace ts = refl
nothing-by Semicolon ts = refl
nothing-by Other ts = refl

ends-plain : (unit rest : List Token) → ends_before unit rest ≡ ends unit rest
ends-plain [] [] = refl
ends-plain [] (t ∷ ts) = nothing-by (role t) ts ∙ nothing-ends (rule_by (role t) ts) t ts
ends-plain (t ∷ unit) rest = by-role (role t) (unit ++ rest) (t ∷ unit) rest

pub ends-before : (unit rest : List Token) → ends unit rest ≡ ends_before unit rest
ends-before unit rest = sym (ends-plain unit rest)

-- ---- scopes

brace-local : (h : Bool) (tokens : List Token) → brace_by (cond h Heading Declaration) tokens ≡ cond h (brace_from 0 tokens) None
brace-local true tokens = refl
brace-local false tokens = refl

brace-by : (r : Role) (ts tokens : List Token) → brace_by (rule_by r ts) tokens ≡ cond (is_heading (r ∷ map role ts)) (brace_from 0 tokens) None
brace-by CloseBrace ts tokens = refl
brace-by Module ts tokens = refl
brace-by Interface ts tokens = refl
brace-by Local ts tokens = brace-local (begins is_interface ts) tokens ∙ ap (λ h. cond h (brace_from 0 tokens) None) (sym (heads-local ts))
brace-by OpenBrace ts tokens = refl
brace-by Semicolon ts tokens = refl
brace-by Other ts tokens = refl

pub opens-heading : (tokens : List Token) → opening_brace tokens ≡ cond (is_heading (map role tokens)) (brace_from 0 tokens) None
opens-heading [] = refl
opens-heading (t ∷ ts) = brace-by (role t) ts (t ∷ ts)

closing-local : (h : Bool) → is_closing_by (cond h Heading Declaration) ≡ false
closing-local true = refl
closing-local false = refl

closing-by : (r : Role) (ts : List Token) → is_closing_by (rule_by r ts) ≡ closes r
closing-by CloseBrace ts = refl
closing-by Module ts = refl
closing-by Interface ts = refl
closing-by Local ts = closing-local (begins is_interface ts)
closing-by OpenBrace ts = refl
closing-by Semicolon ts = refl
closing-by Other ts = refl

closing : (tokens : List Token) → is_closing_by (rule_of tokens) ≡ begins closes tokens
closing [] = refl
closing (t ∷ ts) = closing-by (role t) ts

pub steps-faulty : (tokens : List Token) → faulty_step tokens ≡ elim (opened_kind tokens) [ Some kind ↦ OpensNameless kind | None ↦ cond (begins closes tokens) Closes Stays ]
steps-faulty tokens = by-kind (opened_kind tokens)
  where
    by-kind : (o : Option Kind) → elim o as (λ _. Step) [ Some kind ↦ OpensNameless kind | None ↦ cond (is_closing_by (rule_of tokens)) Closes Stays ] ≡ elim o as (λ _. Step) [ Some kind ↦ OpensNameless kind | None ↦ cond (begins closes tokens) Closes Stays ]
    by-kind None = ap (λ b. cond b Closes Stays) (closing tokens)
    by-kind (Some kind) = refl
