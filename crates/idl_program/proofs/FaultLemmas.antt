-- What clap tells of words to a program without subcommands: one kind of fault at most.
use Rattle.std.proofs.Common.{◌≡◌, ◌≤◌, ◌&&◌, ◌∙◌, ℕ, Bool, true, false, List, [], ◌∷◌, Option, None, Some, arith, cond, drop, inl, inr, length, nat_lt, not, refl, subst, suc, sym, zero}
use Rattle.std.specs.Prelude.{◌==◌, encode_utf8, is_some, slice_get}
use Rattle.std.specs.Option.{option_map_or}
use Rattle.std.specs.Str.{chars}
use Rattle.clap.specs.Facts.{parser_of_value, unwrap_or_range}
use Rattle.clap.specs.Faults.{action_fault, built_fault, bundle_step_fault, count_fault, default_fault, defaults_fault, flag_word_fault, flags_fault, level_fault, long_fault, option_fault, other_fault, react_fault, set_fault, settle_fault, short_fault, step_fault, stray_fault, turn_fault, use_fault, values_fault, walk_fault, word_fault}
use Rattle.clap.specs.Kinds.{check_kinds, or_else, range_kinds, request_kinds, value_kinds, values_kinds}
use Rattle.clap.specs.Lexer.{long_of, short_of}
use Rattle.clap.specs.Simple.{argument_words, built}
use Rattle.clap.specs.Walk.{Held, Row, Rule, Step, Text, Waiting, Walk, action_of, arg_by_id, arg_by_index, arg_by_long, arg_by_short, attached_value, has_row, most_values, nothing_held, reacted, settled, subcommand_met, takes_values, values_or_missing, walk, walk_from, walked, with_default, word_met, idle, next, option, positional, subcommand, trailing, value}
use Rattle.clap.specs.Words.{App, IsAmong, Kinds, Shape, fault_of}
use Rattle.clap.specs.declared.builder.action.ArgAction.{ArgAction}
use Rattle.clap.specs.declared.builder.action.ArgAction.TheVariants as action
use Rattle.clap.specs.declared.builder.value_parser.ValueParser.{ValueParser}
use Rattle.clap.specs.declared.error.kind.ErrorKind.{ErrorKind}
use Rattle.clap.specs.declared.error.kind.ErrorKind.TheVariants as kind
use Rattle.idl_driver.specs.Parsed.{IsDisplay, IsRefusal}
use Rattle.idl_program.specs.Words.{AreWrong, IsRequestOf, faults_in, idlc}
use Rattle.idl_program.specs.declared.request.CompilerRequest.{CompilerRequest}
use Rattle.idl_program.specs.declared.request.CompilerRequest.TheVariants.{Compile, Serve, Show}

record IsSingle (kinds : Kinds) : Type 0 where
  bound : length kinds ≤ 1

none : IsSingle []
none = record { bound = omega arith }

one : (kind : ErrorKind) → IsSingle (kind ∷ [])
one kind = record { bound = omega arith }

one-else : (kinds more : Kinds) → IsSingle kinds → IsSingle more → IsSingle (or_else kinds more)
one-else [] more a b = b
one-else (kind ∷ kinds) more a b = a

one-if : (test : Bool) (these those : Kinds) → IsSingle these → IsSingle those → IsSingle (cond test these those)
one-if true these those a b = a
one-if false these those a b = b

one-option : {X : Type 0} (o : Option X) (kinds : X → Kinds) (other : Kinds) → ((x : X) → IsSingle (kinds x)) → IsSingle other → IsSingle (option_map_or kinds o other)
one-option None kinds other all h = h
one-option (Some x) kinds other all h = all x

one-range : (least most n : ℕ) → IsSingle (range_kinds least most n)
one-range least most n = one-if (nat_lt 0 least && n == 0) _ _ (one kind.InvalidValue)
    (one-if (least == most) _ _ (one-if (least == n) _ _ none (one kind.WrongNumberOfValues))
    (one-if (nat_lt n least) _ _ (one kind.TooFewValues) (one-if (nat_lt most n) _ _ (one kind.TooManyValues) none)))

one-value : (ignore : Bool) (parser : ValueParser) (text : Text) → IsSingle (value_kinds ignore parser text)
one-value ignore parser text = one-if _ _ _ none (one _)

one-values : (ignore : Bool) (parser : ValueParser) (values : List Text) → IsSingle (values_kinds ignore parser values)
one-values ignore parser [] = none
one-values ignore parser (v ∷ vs) = one-else _ _ (one-value ignore parser v) (one-values ignore parser vs)

one-of-values : (a : Rule) (values : List Text) → IsSingle (values_fault a values)
one-of-values a values = one-values a.ignore_case (parser_of_value a.parser) values

one-set : (again : Bool) (a : Rule) (values : List Text) (rows : List Row) → IsSingle (set_fault again a values rows)
one-set again a values rows = one-else _ _ (one-if (has_row a.id rows && not again) _ _ (one kind.ArgumentConflict) none) (one-of-values a values)

one-count : (a : Rule) (values : List Text) (rows : List Row) → IsSingle (count_fault a values rows)
one-count a [] rows = one-value a.ignore_case (parser_of_value a.parser) _
one-count a (v ∷ vs) rows = one-of-values a (v ∷ vs)

one-action : (act : ArgAction) (again : Bool) (a : Rule) (values : List Text) (rows : List Row) → IsSingle (action_fault act again a values rows)
one-action action.Set again a values rows = one-set again a values rows
one-action action.SetTrue again a values rows = one-set again a values rows
one-action action.SetFalse again a values rows = one-set again a values rows
one-action action.Append again a values rows = one-of-values a values
one-action action.Count again a values rows = one-count a values rows
one-action action.Help again a values rows = one _
one-action action.HelpShort again a values rows = one _
one-action action.HelpLong again a values rows = one _
one-action action.Version again a values rows = one _

one-use : (again : Bool) (a : Rule) (values : List Text) (rows : List Row) → IsSingle (use_fault again a values rows)
one-use again a values rows =
    one-else _ _ (one-range (unwrap_or_range a.range).start_inclusive (most_values a) (length values)) (one-action (action_of a) again a (values_or_missing a values) rows)

one-settle : (c : List Rule) (again : Bool) (h : Held) → IsSingle (settle_fault c again h)
one-settle c again h =
    one-option h.pending _ [] (λ p. one-option (arg_by_id c p.0) _ [] (λ a. one-use again a p.1 h.rows) none) none

one-react : (c : List Rule) (again : Bool) (a : Rule) (values : List Text) (h : Held) → IsSingle (react_fault c again a values h)
one-react c again a values h = one-else _ _ (one-settle c again h) (one-use again a values (settled c h).rows)

one-given : (c : List Rule) (again : Bool) (a : Rule) (given : Option Text) (h : Held) → IsSingle (option_fault c again a given h)
one-given c again a (Some v) h = one-react c again a (v ∷ []) h
one-given c again a None h = one-settle c again h

one-long : (c : List Rule) (again : Bool) (found : Option Rule) (given : Option Text) (h : Held) → IsSingle (long_fault c again found given h)
one-long c again None given h = one _
one-long c again (Some a) given h =
    one-if (takes_values a) _ _ (one-given c again a given h) (one-if (is_some given) _ _ (one kind.TooManyValues) (one-react c again a [] h))

one-short : (c : List Rule) (again : Bool) (found : Option Rule) (rest : Text) (h : Held) (more : Held → Kinds) → ((g : Held) → IsSingle (more g)) → IsSingle (short_fault c again found rest h more)
one-short c again None rest h more all = one _
one-short c again (Some a) rest h more all =
    one-if (takes_values a) _ _ (one-given c again a (attached_value rest) h) (one-else _ _ (one-react c again a [] h) (all (reacted c a [] h)))

one-letter : (c : List Rule) (again : Bool) (letter : Option ℕ) (flags : Text) (skip : ℕ) (h : Held) (more : Text → ℕ → Held → Kinds)
    → ((rest : Text) (n : ℕ) (g : Held) → IsSingle (more rest n g)) → IsSingle (bundle_step_fault c again letter flags skip h more)
one-letter c again None flags skip h more all = none
one-letter c again (Some x) flags zero h more all =
    let rest = drop (length (encode_utf8 x)) flags in
    one-short c again (arg_by_short c x) rest h (more rest 0) (all rest 0)
one-letter c again (Some x) flags (suc skip) h more all = all (drop (length (encode_utf8 x)) flags) skip h

one-flags : (c : List Rule) (again : Bool) (k : ℕ) (flags : Text) (skip : ℕ) (h : Held) → IsSingle (flags_fault c again k flags skip h)
unfolding flags_fault
one-flags c again zero flags skip h = none
one-flags c again (suc k) flags skip h =
    one-letter c again (slice_get (chars flags) 0) flags skip h (flags_fault c again k) (one-flags c again k)

one-flag-word : (c : List Rule) (again : Bool) (name : Option (Text × Option Text)) (word : Text) (h : Held) → IsSingle (flag_word_fault c again name word h)
one-flag-word c again (Some p) word h = one-long c again (arg_by_long c p.0) p.1 h
one-flag-word c again None word h =
    one-option (short_of word) _ [] (λ flags. one-flags c again (length flags) flags h.skip (record h { skip = 0 })) none

one-other : (s : Shape) (word : Text) (h : Held) → IsSingle (other_fault s None word h)
one-other s word h = one-if _ _ _ none (one-flag-word s.rules s.args_override_self (long_of word) word h)

-- no word names a subcommand
one-name : (s : Shape) (waiting : Waiting) (word : Text) (h : Held) → IsSingle (other_fault s (subcommand_met [] waiting word) word h)
one-name s idle word h = one-other s word h
one-name s (option id) word h = one-other s word h
one-name s positional word h = one-other s word h

one-word : (s : Shape) (is_trailing : Bool) (waiting : Waiting) (word : Text) (h : Held) → IsSingle (word_fault s [] is_trailing waiting word h)
one-word s is_trailing waiting word h = one-if _ _ _ none (one-name s waiting word h)

one-stray : (s : Shape) → s.is_leaf ≡ true → IsSingle (stray_fault s)
one-stray s leaf = rw leaf (one _)

one-step : (s : Shape) → s.is_leaf ≡ true → (position : ℕ) (h : Held) (step : Step) → IsSingle (step_fault s position h step)
one-step s leaf position h value =
    one-option (arg_by_index s.rules position) _ _ (λ a. one-if _ _ _ none (one-settle s.rules s.args_override_self h)) (one-stray s leaf)
one-step s leaf position h (next waiting) = none
one-step s leaf position h (trailing n) = none
one-step s leaf position h (subcommand name) = none

one-turn : (s : Shape) → s.is_leaf ≡ true → (w : Walk) (word : Text) → IsSingle (turn_fault s [] w word)
one-turn s leaf w word =
    let met = word_met s.rules [] w.is_trailing w.waiting w.position word w.held in
    one-if _ _ _ none (one-else _ _ (one-word s w.is_trailing w.waiting word w.held) (one-step s leaf w.position met.0 met.1))

one-walk : (s : Shape) → s.is_leaf ≡ true → (w : Walk) (words : List Text) → IsSingle (walk_fault s [] w words)
unfolding walk_fault
one-walk s leaf w [] = none
one-walk s leaf w (word ∷ rest) = one-else _ _ (one-turn s leaf w word) (one-walk s leaf (walked s.rules [] w word) rest)

one-request : (act : ArgAction) → IsSingle (request_kinds act)
one-request action.Set = none
one-request action.SetTrue = none
one-request action.SetFalse = none
one-request action.Append = none
one-request action.Count = none
one-request action.Help = one _
one-request action.HelpShort = one _
one-request action.HelpLong = one _
one-request action.Version = one _

one-default : (rows : List Row) (a : Rule) → IsSingle (default_fault rows a)
one-default rows a = one-if _ _ _ none (one-else _ _ (one-request (action_of a)) (one-of-values a a.defaults))

one-defaults : (rows : List Row) (rules : List Rule) → IsSingle (defaults_fault rows rules)
unfolding defaults_fault
one-defaults rows [] = none
one-defaults rows (a ∷ rest) = one-else _ _ (one-default rows a) (one-defaults (with_default rows a) rest)

one-check : (help wanted argument : Bool) → IsSingle (check_kinds help wanted argument)
one-check help wanted argument = one-if help _ _ (one kind.DisplayHelpOnMissingArgumentOrSubcommand)
    (one-if wanted _ _ (one kind.MissingSubcommand) (one-if argument _ _ (one kind.MissingRequiredArgument) none))

one-level : (s : Shape) → s.is_leaf ≡ true → (h : Held) (words : List Text) (has_subcommand : Bool) (below : Kinds) → IsSingle below → IsSingle (level_fault s [] h words has_subcommand below)
one-level s leaf h words has_subcommand below is =
    let end = (walk s.rules [] h words).held in
    one-else _ _ (one-walk s leaf (walk_from h) words)
    (one-else _ _ is (one-else _ _ (one-settle s.rules s.args_override_self end)
    (one-else _ _ (one-defaults (settled s.rules end).rows s.rules) (one-check _ _ _))))

one-alone : (s : Shape) → s.is_leaf ≡ true → (h : Held) (words : List Text) → IsSingle (built_fault (record { top = s; subs = [] }) h words)
one-alone s leaf h words =
    let stop = (walk s.rules [] h words).stopped in
    one-level s leaf h words _ _ (one-option stop _ [] (λ p. none) none)

one-fault : (app : App) (words : List Text) → (built app).top.is_leaf ≡ true → (built app).subs ≡ [] → IsSingle (fault_of app words)
one-fault app words leaf alone =
    let words = argument_words app words in
    subst (λ (subs : List Shape). IsSingle (built_fault (record { top = (built app).top; subs = subs }) nothing_held words)) (sym alone)
    (one-alone (built app).top leaf nothing_held words)

idlc_is_leaf : (built idlc).top.is_leaf ≡ true
unfolding idlc
idlc_is_leaf = refl

idlc_has_no_commands : (built idlc).subs ≡ []
unfolding idlc
idlc_has_no_commands = refl

pub single : (words : List Text) → length (faults_in words) ≤ 1
unfolding faults_in
single words = (one-fault idlc words idlc_is_leaf idlc_has_no_commands).bound

-- of one kind there is no other
same : (kinds : Kinds) (k j : ErrorKind) → length kinds ≤ 1 → IsAmong k kinds → IsAmong j kinds → k ≡ j
same [] k j is a b = absurd a
same (x ∷ []) k j is (inl a) (inl b) = a ∙ sym b
same (x ∷ []) k j is (inl a) (inr b) = absurd b
same (x ∷ []) k j is (inr a) b = absurd a
same (x ∷ y ∷ kinds) k j is a b = absurd (omega (arith, is))

among-none : (kinds : Kinds) (k : ErrorKind) → kinds ≡ [] → IsAmong k kinds → ⊥
among-none kinds k e a = subst (IsAmong k) e a

not-both : (k : ErrorKind) → IsRefusal k → IsDisplay k → ⊥
not-both k is (inl help) = is.0 help
not-both k is (inr version) = is.1 version

not-true : true ≡ false → ⊥
not-true e = absurd (cc)

pub apart : (words : List Text) (request : CompilerRequest) → AreWrong words → IsRequestOf words request → ⊥
apart words (Show text) (inl (k, among, is)) (j, has, shows) =
    not-both k is (subst IsDisplay (sym (same (faults_in words) k j (single words) among has)) shows)
apart words (Show text) (inr (inl (taken, many))) (j, has, shows) = among-none _ j taken.0 has
apart words (Show text) (inr (inr (taken, none))) (j, has, shows) = among-none _ j taken.0 has
apart words Serve (inl (k, among, is)) (taken, one) = among-none _ k taken.0 among
apart words Serve (inr (inl (taken, many))) (held, one) = omega (arith, many, one)
apart words Serve (inr (inr (taken, none))) (held, one) = not-true (sym held.1 ∙ taken.1)
apart words (Compile options) (inl (k, among, is)) (taken, some, are) = among-none _ k taken.0 among
apart words (Compile options) (inr (inl (taken, many))) (held, some, are) = not-true (sym taken.1 ∙ held.1)
apart words (Compile options) (inr (inr (taken, none))) (held, some, are) = some none
