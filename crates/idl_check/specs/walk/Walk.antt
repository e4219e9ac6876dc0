-- The walk over the sites of a unit, in the order of its tokens: what is asked at each, what is
-- wrong there, and what it adds.
-- Sites come in the order of tokens, but a second `default` is found at the next token, and what an
-- expression comes to is known at its end. So the walk notes the least fault so far and ends behind
-- its token; nothing is sorted. Where an expression begins is never behind the next token, so each
-- step is defined over every list of sites.
-- A verdict asks how often its scope was opened, so that it is taken over only where that count is
-- as before. A chain of typedefs without end comes to the name itself.
use Rattle.std.specs.Prelude.{ℕ, ◌+◌, Bool, false, ◌&&◌, ◌||◌, List, [], ◌∷◌, ◌++◌, drop, fold, is_some, min, nat_lt, not, Option, None, Some, Result, Ok, Err, if◌then◌else◌, option_to_list}
use Rattle.idl_check.specs.ids.About.{Said, unnamed_faults}
use Rattle.idl_check.specs.ids.Remarks.{is_bad_text, purpose_of, remark}
use Rattle.idl_check.specs.told.Bodies.{Body, Clauses, array_of, begun_body, no_clauses, told_innermost, with_array_member, with_body_label, with_text, with_member, with_raised}
use Rattle.idl_check.specs.tables.Codes.{faults_by}
use Rattle.idl_check.specs.tables.Declaring.{Written, declared_table, entity_of, kind_of, standing, with_declared, written_after}
use Rattle.idl_check.specs.told.Labels.{Labels, no_labels, with_default, with_label}
use Rattle.idl_tree.specs.NameParts.{last_at, part_at}
use Rattle.idl_check.specs.tables.Rules.{is_default_again, is_label_again, is_useless_default}
use Rattle.idl_check.specs.told.Types.{looked_through, target_in, written_as}
use Rattle.idl_check.specs.tables.Using.{Bases, bases_after, constants_after, last_after, name_code, own_after, type_after, unions_after, used_table, values_after, with_uses}
use Rattle.idl_check.specs.told.Values.{Values, begun_at, code_of, evaluation_for, no_values, with_value}
use Rattle.idl_check.specs.declared.tables.standing.Standing.{Standing}
use Rattle.idl_fault.specs.declared.code.Code.{Code}
use Rattle.idl_fault.specs.declared.code.Code.TheVariants as code
use Rattle.idl_lex.specs.kinds.Keywords.{folded}
use Rattle.idl_memo.specs.Query.{Done, and_then}
use Rattle.idl_entity.specs.DataType.{plain_type}
use Rattle.idl_env.specs.Facts.{with_addition}
use Rattle.idl_entity.specs.Kind.{kind_eq, stage_eq, is_scope}
use Rattle.idl_scope.specs.Lookup.{Lookup, by_result, denoted, under}
use Rattle.idl_env.specs.Turns.{turns_among}
use Rattle.idl_env.specs.declared.additions.addition.Addition.{Addition}
use Rattle.idl_env.specs.declared.additions.addition.Addition.TheVariants.{Declares}
use Rattle.idl_env.specs.declared.answering.answer.Scope.{Scope}
use Rattle.idl_entity.specs.declared.data_type.Element.TheVariants.{Constants, Named}
use Rattle.idl_entity.specs.declared.entity.Entity.{Entity}
use Rattle.idl_scope.specs.declared.fault.NameFault.{NameFault}
use Rattle.idl_scope.specs.declared.fault.NameFault.TheVariants.{At, Memory}
use Rattle.idl_scope.specs.declared.found.Found.{Found}
use Rattle.idl_entity.specs.declared.kind.Kind.TheVariants.{Constant, Interface, Union}
use Rattle.idl_entity.specs.declared.kind.Stage.TheVariants.{Begun}
use Rattle.idl_parts.specs.Item.{Item, item_length}
use Rattle.idl_parts.specs.Part.{Part as item}
use Rattle.idl_parts.specs.declared.part.Declaration.{Declaration}
use Rattle.idl_parts.specs.declared.part.Purpose.{Purpose}
use Rattle.idl_parts.specs.declared.part.Purpose.TheVariants as purpose
use Rattle.idl_parts.specs.declared.part.TextPurpose.{TextPurpose}
use Rattle.idl_parts.specs.declared.part.Use.{Use}
use Rattle.idl_parts.specs.declared.part.Use.TheVariants.{AsDiscriminator}
use Rattle.idl_tree.specs.declared.expression.Expression.{Expression}
use Rattle.idl_tree.specs.declared.name.ScopedName.{ScopedName}
use Rattle.idl_unit.specs.Faults.{least_fault}
use Rattle.idl_unit.specs.TokenRules.{fault_at, first}
use Rattle.idl_unit.specs.declared.fault.Fault.{Fault}
use Rattle.idl_value.specs.Evaluation.{Evaluation, first_of, joined}
use Rattle.idl_value.specs.ConstantType.{target_of}
use Rattle.idl_value.specs.declared.outcome.Outcome.{Outcome}
use Rattle.idl_value.specs.declared.outcome.Outcome.TheVariants as outcome
use Rattle.idl_value.specs.declared.constant_type.ConstantType.{ConstantType}
use Rattle.idl_value.specs.declared.value.Value.{Value}

-- how far a walk has come
pub record Walk : Type 0 where
  -- the number of the next token
  pub at : ℕ
  -- the scopes around it, the innermost first
  pub cursor : List Scope
  -- what the tokens before it add, and those of the declared names that the unit's end finishes
  pub own : List Addition
  pub begun : List Entity
  pub bases : Bases
  -- what the next names are declared with, what was declared last, the scopes of the unit that it
  -- stands in, the innermost first, and what the clauses behind an operation or attribute say
  pub written : Written
  pub last : Option Entity
  pub bodies : List Body
  pub clauses : Clauses
  -- the labels of the unions around it, the innermost first
  pub unions : List Labels
  -- the text that stands behind the next name, if something is said by it of what that denotes
  pub text : List ℕ
  -- the paths of what the used names denote, in order
  pub found : List (List (List ℕ))
  -- the expressions, each of which is read to its end whatever is wrong in it
  pub values : Values
  -- the least fault so far
  pub fault : Option Fault

-- before the first site, in these scopes
abbrev pub first_walk : List Scope → Walk
first_walk cursor = record {
  at = 0;
  cursor = cursor;
  own = [];
  begun = [];
  bases = record { paths = []; operations = [] };
  written = record { data_type = None; constants = None; enumeration = []; enumerators = [] };
  last = None;
  bodies = [];
  clauses = no_clauses;
  unions = [];
  text = [];
  found = [];
  values = no_values;
  fault = None;
}

-- behind so many tokens more
abbrev pub passed : ℕ → Walk → Walk
passed n w = record w { at = w.at + n }

-- what comes of a site: the faults there, in order, and how the walk goes on where these are passed
-- over
pub record Visit : Type 0 where
  pub faults : List Fault
  pub after : Walk

abbrev pub quiet : Walk → Visit
quiet w = record { faults = []; after = w }

-- with this fault at the next token where a test holds
abbrev pub faulty_if : Bool → Code → Walk → Walk → Visit
faulty_if is_faulty why w after = record {
  faults = if is_faulty then fault_at w.at why ∷ [] else [];
  after = after;
}

-- the unit's end finishes an interface or a constant that has begun
abbrev pub is_begun : Entity → Bool
is_begun e =
    stage_eq e.stage Begun && (kind_eq e.kind Interface || kind_eq e.kind Constant)

-- a declared name, by what stands under it in its scope
abbrev pub declared_visit : Walk → Declaration → Scope → Entity → Standing → Visit
declared_visit w way s e standing = record {
  faults = faults_by w.at (declared_table s standing e);
  after = record w {
    at = w.at + 1;
    own = with_declared standing e w.own;
    begun = w.begun ++ (if is_begun e then e ∷ [] else []);
    written = written_after w.written e;
    last = Some e;
    bodies = with_member way e w.bodies;
  };
}

-- a used name, by what it denotes, and by what stands behind that
abbrev pub used_after : Walk → Use → ScopedName → Found → Entity → Walk
used_after w way name found behind = record w {
  at = last_at w.at name + 1;
  own = own_after way (last_after way found.entity.path w.last)
      (with_uses (folded name.first) found.reach w.cursor w.own);
  last = last_after way found.entity.path w.last;
  bases = bases_after way found.entity w.bases;
  written = record w.written {
    data_type = type_after way found.entity w.written.data_type;
    constants = constants_after way behind w.written.constants;
  };
  clauses = with_raised way found.entity.path w.clauses;
  unions = unions_after way behind w.unions;
  found = w.found ++ found.entity.path ∷ [];
  values = values_after way found.entity.value w.values;
}

abbrev pub used_visit : Walk → Use → ScopedName → Found → Entity → Visit
used_visit w way name found behind = record {
  faults = faults_by (last_at w.at name) (used_table way w.bases found.entity behind);
  after = used_after w way name found behind;
}

-- a used name that denotes nothing; a union's labels are then of no type
abbrev pub unions_without : Use → List Labels → List Labels
unions_without AsDiscriminator unions = no_labels None 0 ∷ unions
unions_without other unions = unions

abbrev pub unfound_visit : Walk → Use → ScopedName → NameFault → Visit
unfound_visit w way name (At why part) = record {
  faults = fault_at (part_at w.at name part) (name_code why) ∷ [];
  after = record w {
    at = last_at w.at name + 1;
    unions = unions_without way w.unions;
    values = values_after way None w.values;
  };
}
unfound_visit w way name Memory = quiet w

-- the turns at a token, of so many before the unit: the tokens before it may declare and name more
abbrev pub turns_at : ℕ → Walk → ℕ
turns_at turns w = turns + turns_among w.own

-- a used name
unfoldable pub used : ℕ → Use → ScopedName → Walk → Lookup Visit
used turns way name w =
    and_then (under w.own (denoted (turns_at turns w) w.cursor name))
    (λ r. by_result r
    (λ found. and_then (under w.own (looked_through (turns_at turns w) way found.entity))
    (λ behind. Done (used_visit w way name found behind)))
    (λ fault. Done (unfound_visit w way name fault)))

-- a name of which something is said: it introduces nothing
abbrev pub spoken_visit : Walk → ScopedName → Found → Said → Visit
spoken_visit w name found s = record {
  faults = s.faults;
  after = record w {
    at = last_at w.at name + 1;
    own = fold with_addition w.own s.additions;
    found = w.found ++ found.entity.path ∷ [];
  };
}

-- and one that denotes nothing
abbrev pub unspoken_visit : Walk → ScopedName → NameFault → Visit
unspoken_visit w name fault = record {
  faults = unnamed_faults w.at name fault;
  after = record w { at = last_at w.at name + 1 };
}

unfoldable pub spoken_of : ℕ → TextPurpose → ScopedName → Walk → Lookup Visit
spoken_of turns purpose name w =
    and_then (under w.own (denoted (turns_at turns w) w.cursor name))
    (λ r. by_result r
    (λ found. and_then (under w.own (remark purpose (last_at w.at name) w.text found.entity))
    (λ s. Done (spoken_visit w name found s)))
    (λ fault. Done (unspoken_visit w name fault)))

-- a used name, by whether something is said of it
abbrev pub plain_name : ℕ → Use → ScopedName → Walk → Lookup Visit
plain_name turns way name w =
    elim (purpose_of way) [
      | None ↦ used turns way name w
      | Some purpose ↦ spoken_of turns purpose name w
    ]

-- A used name that is cut behind its first token: nothing further on is looked at.
abbrev pub head_faults : ℕ → Result Found NameFault → List Fault
head_faults at (Ok found) =
    if is_scope found.entity.kind then [] else fault_at at code.NoScope ∷ []
head_faults at (Err (At why part)) = fault_at at (name_code why) ∷ []
head_faults at (Err Memory) = []

abbrev pub past_name : ScopedName → Walk → Walk
past_name name w = record w { at = last_at w.at name + 1 }

abbrev pub head_visit : ScopedName → Walk → Result Found NameFault → Visit
head_visit name w r = record { faults = head_faults w.at r; after = past_name name w }

-- the name with which a name of several parts begins
abbrev pub head_of : ScopedName → ScopedName
head_of name = record name { rest = [] }

unfoldable pub cut_name : ℕ → Use → ScopedName → Walk → Lookup Visit
cut_name turns way name w =
    if name.is_global then Done (quiet (past_name name w))
    else elim name.rest [
      | [] ↦ used turns way name w
      | part ∷ parts ↦ and_then (under w.own (denoted (turns_at turns w) w.cursor (head_of name)))
          (λ r. Done (head_visit name w r))
    ]

-- the scope of what is declared so begins
abbrev pub with_scope : Declaration → List ℕ → List Scope → List Scope
with_scope way name [] = []
with_scope way name (s ∷ scopes) =
    record { path = name ∷ s.path; kind = kind_of way; body = 1 } ∷ s ∷ scopes

-- It ends: it is a type from then on, and what it is of is finished by the unit's end. The labels
-- of a union are complete.
abbrev pub ended_scope : Walk → Walk
ended_scope w = record w {
  cursor = drop 1 w.cursor;
  begun = w.begun ++ told_innermost w.clauses w.bodies;
  written =
      elim (first w.cursor) [
        | None ↦ w.written
        | Some s ↦ record w.written { data_type = Some (plain_type (Named s.path)) }
      ];
  bodies = drop 1 w.bodies;
}

abbrev pub scope_visit : Walk → Visit
scope_visit w =
    elim (first w.cursor) [
      | None ↦ quiet w
      | Some s ↦
          if kind_eq s.kind Union
          then faulty_if (is_useless_default w.unions) code.UselessDefault w
          (record (ended_scope w) { unions = drop 1 w.unions })
          else quiet (ended_scope w)
    ]

-- the labels of the innermost union are now these
abbrev pub with_labels : (Labels → Labels) → List Labels → List Labels
with_labels more [] = []
with_labels more (labels ∷ unions) = more labels ∷ unions

-- the type of the innermost union's labels, if it is known
abbrev pub label_target : List Labels → Option ConstantType
label_target [] = None
label_target (labels ∷ unions) = labels.target

-- what was declared last is an array of the lengths that were told
abbrev pub with_array : List ℕ → Option Entity → List Addition → List Addition
with_array lengths None own = own
with_array lengths (Some e) own = with_addition own (Declares (array_of lengths e))

abbrev pub ended_array : Walk → Walk
ended_array w = record w {
  own = with_array w.values.lengths w.last w.own;
  bodies = with_array_member w.values.lengths w.last w.bodies;
  values = record w.values { lengths = [] };
}

-- an expression that is for this and has this value
abbrev pub valued_after : Walk → Purpose → Value → Walk
valued_after w purpose.Label v = record w {
  unions = with_labels (λ l. with_label l v) w.unions;
  bodies = with_body_label (Some v) w.bodies;
}
valued_after w other v = w

abbrev pub is_repeated : Walk → Purpose → Value → Bool
is_repeated w purpose.Label v = is_label_again w.unions v
is_repeated w other v = false

-- the number of its first token, and of the one so many further on, none behind the next token
abbrev pub begin_of : Walk → ℕ
begin_of w = elim w.values.begin [ None ↦ w.at | Some at ↦ min at w.at ]

abbrev pub token_of : Walk → ℕ → ℕ
token_of w n = min (begin_of w + n) w.at

abbrev pub value_visit : Walk → Purpose → Outcome → Visit
value_visit w way (outcome.Value v) = record {
  faults = if is_repeated w way v then fault_at (begin_of w) code.RepeatedLabel ∷ [] else [];
  after = record (valued_after w way v) { values = with_value way v w.values };
}
value_visit w way (outcome.Fault f) = record {
  faults = fault_at (token_of w f.token) (code_of f.code) ∷ [];
  after = record w { values = record w.values { begin = None } };
}
value_visit w way outcome.Told =
    quiet (record w { values = record w.values { begin = None } })

-- what it comes to, and what is told of that
abbrev pub evaluation_at : Walk → Purpose → Expression → Evaluation
evaluation_at w way e =
    evaluation_for way w.written.constants (label_target w.unions) w.values.operands e

abbrev pub outcome_at : Walk → Purpose → Expression → Outcome
outcome_at w way e = first_of (evaluation_at w way e)

-- a site
unfoldable pub visit : ℕ → Item → Walk → Lookup Visit
visit turns (item.Declares way name) w =
    elim (first w.cursor) [
      | None ↦ Done (quiet (passed 1 w))
      | Some s ↦ let e = entity_of w.written way name s.path in
          and_then (under w.own (standing (turns_at turns w) s e))
          (λ there. Done (declared_visit w way s e there))
    ]
visit turns (item.Uses way name) w = plain_name turns way name w
visit turns (item.ScopeBegins way name) w =
    Done (quiet (record w {
      cursor = with_scope way name w.cursor;
      bodies = begun_body w.last w.written.data_type ∷ w.bodies;
    }))
visit turns item.ScopeEnds w = Done (scope_visit w)
visit turns item.ValueBegins w = Done (quiet (record w { values = begun_at w.at w.values }))
visit turns (item.ValueEnds way expression) w =
    Done (value_visit w way (outcome_at w way expression))
visit turns (item.TypeEnds shape) w =
    let t = written_as shape w.values.bound w.written.data_type in
    Done (quiet (record w {
      written = record w.written { data_type = t; constants = target_in t };
    }))
visit turns item.ArrayEnds w = Done (quiet (ended_array w))
visit turns (item.Enumerates names) w =
    Done (quiet (record w {
      written = record w.written { enumerators = names.first ∷ names.rest };
    }))
visit turns (item.Identifies text) w = Done (quiet (record w { text = joined text }))
visit turns (item.Switches discrete) w =
    let t = target_of discrete in
    Done (quiet (record w {
      written = record w.written { data_type = Some (plain_type (Constants t)) };
      unions = no_labels (Some t) 0 ∷ w.unions;
    }))
visit turns item.Default w =
    Done (faulty_if (is_default_again w.unions) code.RepeatedLabel w
    (record w {
      unions = with_labels with_default w.unions;
      bodies = with_body_label None w.bodies;
    }))
visit turns item.GivesBack w =
    Done (record { faults = fault_at w.at code.BadOneway ∷ []; after = w })
visit turns (item.Plain n) w = Done (quiet (passed n w))
visit turns (item.Says purpose text) w =
    Done (faulty_if (is_bad_text purpose (joined text)) code.BadIdText w
    (record (passed (item_length (item.Says purpose text)) w) {
      clauses = with_text purpose text w.clauses;
    }))

-- after a site: the least of its faults and of the one before
abbrev pub noted : Option Fault → List Fault → Option Fault
noted before faults = least_fault (option_to_list before ++ faults)

abbrev pub noted_in : Visit → Option Fault → Walk
noted_in v fault = record v.after { fault = noted fault v.faults }

-- a fault at a token before this one is known, and no expression is being read to its end
abbrev pub is_known : ℕ → Walk → Bool
is_known at w =
    elim w.fault [ None ↦ false | Some f ↦ nat_lt f.index at && not (is_some w.values.begin) ]

-- nothing more is asked behind the token of a fault
abbrev pub is_over : Walk → Bool
is_over w = is_known w.at w

-- A site to which a walk comes. Where a fault of the next token is known before the token is looked
-- at, as one of the tree by itself is, a name that begins there is cut. (None is before a name of which
-- something is said.)
abbrev pub looked_at : ℕ → Item → Walk → Lookup Visit
looked_at turns (item.Uses way name) w =
    elim (purpose_of way) [
      | None ↦ if is_known (w.at + 1) w then cut_name turns way name w else used turns way name w
      | Some purpose ↦ spoken_of turns purpose name w
    ]
looked_at turns site w = visit turns site w

-- the walk over these sites
unfoldable pub walk : ℕ → List Item → Walk → Lookup Walk
walk turns [] w = Done w
walk turns (site ∷ sites) w =
    if is_over w then Done w
    else and_then (looked_at turns site w) (λ v. walk turns sites (noted_in v w.fault))
