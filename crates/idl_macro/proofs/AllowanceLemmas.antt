-- What the steps of a replacement leave of the limits.
use Rattle.std.proofs.Common.{◌≡◌, ◌≢◌, ℕ, ◌+◌, ◌-◌, ◌*◌, ◌<◌, ◌≤◌, Bool, true, false, nat_eq, not, ◌&&◌, if◌then◌else◌, List, Option, None, Some, refl, ap, sym, ◌∙◌, arith}
use Rattle.std.specs.List.{list_any}
use Rattle.std.specs.Map.{lookup}
use Rattle.std.specs.Str.{bytes_eq}
use Rattle.idl_memo.specs.Progress.{after_item, after_key, with_item}
use Rattle.idl_memo.specs.Query.{Done, Ask, noted, outcome}
use Rattle.idl_event.specs.Items.{rules, spend, turns_left}
use Rattle.idl_event.specs.Key.{key_eq}
use Rattle.idl_event.specs.Expanding.{Reached, arrival, arrived, reached}
use Rattle.idl_macro.specs.Macros.{Definitions, body_in, macro_of}
use Rattle.idl_macro.specs.Output.{item_of}
use Rattle.idl_macro.specs.Replace.{replacement}
use Rattle.idl_lex.specs.tokens.Tokens.{Token}
use Rattle.idl_lex.specs.kinds.Word.{is_word}
use Rattle.idl_event.specs.declared.told.allowance.Allowance.{Allowance}
use Rattle.idl_event.specs.Limits.{turns_at_most}
use Rattle.idl_event.specs.declared.told.event.Item.{Item}
use Rattle.idl_event.specs.declared.told.event.Item.TheVariants.{Turn}
use Rattle.idl_event.specs.declared.asked.key.RootAnswer.{RootAnswer}
use Rattle.idl_event.specs.declared.asked.key.RootKey.{RootKey}
use Rattle.idl_event.specs.declared.asked.key.RootKey.TheVariants as key
use Rattle.idl_fault.specs.declared.place.Place.{Place}
use Rattle.idl_macro.specs.declared.replacement.Output.{Output}
use Rattle.idl_macro.specs.declared.replacement.Output.TheVariants.{Text, Operand}
use Rattle.idl_macro.proofs.ArrivalLemmas.{arrived-outcome}

-- a key that is asked takes nothing of them
abbrev with_key : (RootKey → Option RootAnswer) → RootKey → Reached → Option Allowance → Reached
with_key bank k p o = elim o [ None ↦ p | Some left ↦ record p { log = noted key_eq bank p.log k } ]

left-with_key : (bank : RootKey → Option RootAnswer) (k : RootKey) (p : Reached) (o : Option Allowance) → (with_key bank k p o).left ≡ p.left
left-with_key bank k p None = refl
left-with_key bank k p (Some left) = refl

pub left-after_key : (bank : RootKey → Option RootAnswer) (k : RootKey) (p : Reached) → (after_key key_eq bank k p).left ≡ p.left
left-after_key bank k p = left-with_key bank k p p.left

-- nor does the macro of a word
left-said : (bank : RootKey → Option RootAnswer) (word : List ℕ) (p : Reached) (said : Option (Option (List Token)))
    → (reached bank (elim said [ None ↦ Ask (key.Macro word) (λ found. Done (body_in found)) | Some body ↦ Done body ]) p).left ≡ p.left
left-said bank word p None = left-after_key bank (key.Macro word) p
left-said bank word p (Some body) = refl

pub left-macro_of : (bank : RootKey → Option RootAnswer) (definitions : Definitions) (word : List ℕ) (p : Reached) → (reached bank (macro_of definitions word) p).left ≡ p.left
unfolding macro_of
left-macro_of bank definitions word p = left-said bank word p (lookup (bytes_eq word) definitions)

-- nor the body that a token is replaced by
left-if : (bank : RootKey → Option RootAnswer) (definitions : Definitions) (word : List ℕ) (p : Reached) (c : Bool)
    → (reached bank (if c then macro_of definitions word else Done None) p).left ≡ p.left
left-if bank definitions word p true = left-macro_of bank definitions word p
left-if bank definitions word p false = refl

pub left-replacement : (bank : RootKey → Option RootAnswer) (definitions : Definitions) (hidden : List (List ℕ)) (t : Token) (p : Reached) → (reached bank (replacement definitions hidden t) p).left ≡ p.left
unfolding replacement
left-replacement bank definitions hidden t p = left-if bank definitions t p (is_word t && not (list_any (bytes_eq t) hidden))

-- so many replacements are open: each took a turn
abbrev pub IsWithinTurns : Option Allowance → ℕ → Type 0
IsWithinTurns None opened = Unit {0}
IsWithinTurns (Some left) opened = opened ≤ turns_at_most - left.turns

-- what is left to do: a replacement costs a turn and opens one more, a token costs a token, and a replacement is closed
abbrev pub work_left : Option Allowance → ℕ → ℕ
work_left None opened = opened
work_left (Some left) opened = 2 * left.turns + left.tokens + opened + 2

pub IsWithinTurns-room : (left : Option Allowance) (opened : ℕ) → left ≢ None → IsWithinTurns left opened → opened < turns_at_most + 1
IsWithinTurns-room None opened some h = absurd (some refl)
IsWithinTurns-room (Some left) opened some h = omega arith

pub IsWithinTurns-closed : (left : Option Allowance) (opened : ℕ) → IsWithinTurns left (opened + 1) → IsWithinTurns left opened
IsWithinTurns-closed None opened h = tt {0}
IsWithinTurns-closed (Some left) opened h = omega arith

pub no_zero : (n : ℕ) → nat_eq n 0 ≡ false → n ≢ 0
no_zero n h e = let z : nat_eq n 0 ≡ true = ap (λ m. nat_eq m 0) e in cc

-- what an item leaves
abbrev pub left_by : Item → Option Allowance → Option Allowance
left_by item None = None
left_by item (Some left) = spend left item

left-with_item : (item : Item) (p : Reached) (o : Option Allowance) → (with_item rules p item o).left ≡ o
left-with_item item p None = refl
left-with_item item p (Some rest) = refl

abbrev item_more : Item → Reached → Option Allowance → Reached
item_more item p o = elim o [ None ↦ p | Some left ↦ with_item rules p item (spend left item) ]

left-item_more : (item : Item) (p : Reached) (o : Option Allowance) → p.left ≡ o → (item_more item p o).left ≡ left_by item o
left-item_more item p None e = e
left-item_more item p (Some left) e = left-with_item item p (spend left item)

pub left-after_item : (item : Item) (p : Reached) → (after_item rules item p).left ≡ left_by item p.left
left-after_item item p = left-item_more item p p.left refl

-- a turn
spend_turn_within : (left : Allowance) (opened : ℕ) (b : Bool) → (b ≡ false → left.turns ≢ 0) → opened ≤ turns_at_most - left.turns → left.turns ≤ turns_at_most
    → IsWithinTurns (if b then None else Some (record left { turns = left.turns - 1 })) (opened + 1)
spend_turn_within left opened true some h fits = tt {0}
spend_turn_within left opened false some h fits = let more = some refl in omega arith

pub IsWithinTurns-turn : (place : Place) (left : Option Allowance) (opened : ℕ) → IsWithinTurns left opened → turns_left left ≤ turns_at_most → IsWithinTurns (left_by (Turn place) left) (opened + 1)
IsWithinTurns-turn place None opened h fits = tt {0}
IsWithinTurns-turn place (Some left) opened h fits = spend_turn_within left opened (nat_eq left.turns 0) (no_zero left.turns) h fits

spend_turn_work : (left : Allowance) (opened : ℕ) (b : Bool) → (b ≡ false → left.turns ≢ 0)
    → work_left (if b then None else Some (record left { turns = left.turns - 1 })) (opened + 1) < work_left (Some left) opened
spend_turn_work left opened true some = omega arith
spend_turn_work left opened false some = let more = some refl in omega arith

pub work_left-turn : (place : Place) (left : Option Allowance) (opened : ℕ) → left ≢ None → work_left (left_by (Turn place) left) (opened + 1) < work_left left opened
work_left-turn place None opened some = absurd (some refl)
work_left-turn place (Some left) opened some = spend_turn_work left opened (nat_eq left.turns 0) (no_zero left.turns)

-- a token that comes of it
spend_token_within : (left : Allowance) (opened : ℕ) (b : Bool) → opened ≤ turns_at_most - left.turns
    → IsWithinTurns (if b then None else Some (record left { tokens = left.tokens - 1 })) opened
spend_token_within left opened true h = tt {0}
spend_token_within left opened false h = h

pub IsWithinTurns-put : (output : Output) (place : Place) (t : Token) (left : Option Allowance) (opened : ℕ) → IsWithinTurns left opened → IsWithinTurns (left_by (item_of output place t) left) opened
IsWithinTurns-put output place t None opened h = tt {0}
IsWithinTurns-put Text place t (Some left) opened h = spend_token_within left opened (nat_eq left.tokens 0) h
IsWithinTurns-put (Operand tokens) place t (Some left) opened h = spend_token_within left opened (nat_eq left.tokens 0) h

spend_token_work : (left : Allowance) (opened : ℕ) (b : Bool) → (b ≡ false → left.tokens ≢ 0)
    → work_left (if b then None else Some (record left { tokens = left.tokens - 1 })) opened < work_left (Some left) opened
spend_token_work left opened true some = omega arith
spend_token_work left opened false some = let more = some refl in omega arith

pub work_left-put : (output : Output) (place : Place) (t : Token) (left : Option Allowance) (opened : ℕ) → left ≢ None → work_left (left_by (item_of output place t) left) opened < work_left left opened
work_left-put output place t None opened some = absurd (some refl)
work_left-put Text place t (Some left) opened some = spend_token_work left opened (nat_eq left.tokens 0) (no_zero left.tokens)
work_left-put (Operand tokens) place t (Some left) opened some = spend_token_work left opened (nat_eq left.tokens 0) (no_zero left.tokens)

-- where it isn't over
pub not_over : (b : Bool) (left : Option Allowance) → b ≡ false → (left ≡ None → b ≡ true) → left ≢ None
not_over b left going ends e = let ended = ends e in cc

-- what is found where it isn't over
pub replacement-found : (bank : RootKey → Option RootAnswer) (definitions : Definitions) (hidden : List (List ℕ)) (t : Token) (body : Option (List Token)) (p q : Reached)
    → p.left ≢ None → arrived body q ≡ arrival bank (replacement definitions hidden t) p → outcome (replacement definitions hidden t) bank ≡ body
replacement-found bank definitions hidden t body p q going found =
    let same : q.left ≡ p.left = ap (λ (r : Reached × Option (Option (List Token))). r.0.left) found ∙ left-replacement bank definitions hidden t p in
    sym (arrived-outcome body (outcome (replacement definitions hidden t) bank) q (reached bank (replacement definitions hidden t) p) found (λ over. going (sym same ∙ over)))

-- what a step leaves: what is asked takes nothing, and then an item is told
pub left-step : (bank : RootKey → Option RootAnswer) (definitions : Definitions) (hidden : List (List ℕ)) (t : Token) (item : Item) (body : Option (List Token)) (p asked told : Reached)
    → arrived body asked ≡ arrival bank (replacement definitions hidden t) p → told ≡ after_item rules item asked → told.left ≡ left_by item p.left
left-step bank definitions hidden t item body p asked told ask tell =
    ap (λ (r : Reached). r.left) tell
    ∙ left-after_item item asked
    ∙ ap (left_by item) (ap (λ (r : Reached × Option (Option (List Token))). r.0.left) ask ∙ left-replacement bank definitions hidden t p)
