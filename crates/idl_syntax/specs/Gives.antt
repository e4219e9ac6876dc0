-- What a function gives over the tokens that are left, by what a reader reads.
use Rattle.std.specs.Prelude.{◌≡◌, ◌<◌, ◌≤◌, ℕ, List, length, Result, Ok, Err, Bool, Option, IfOk}
use Rattle.std.specs.Borrow.{Bor}
use Rattle.idl_syntax.specs.declared.fault.ReadingFault.{ReadingFault}
use Rattle.idl_syntax.specs.declared.fault.ReadingFault.TheVariants as fault
use Rattle.idl_tree.specs.Lexeme.{Lexeme, lexemes}
use Rattle.idl_tree.specs.reading.Reading.{◌>>=◌, Reader, expect}

-- a token to a contract is its bytes
abbrev pub Tokens : Type 0
Tokens = List (List ℕ)

-- a reader of what this makes of a part that is read
abbrev pub made : {A B : Type 0} → (A → B) → Reader A → Reader B
made make reader ts = reader ts >>= λ x. Ok (make x.0, x.1)

-- reading fails there, or memory ran out
abbrev pub Fails : {Y : Type 0} → ReadingFault → Result Y ℕ → Type 0
Fails fault.Memory read = Unit {0}
Fails (fault.NoTree left) read = read ≡ Err left

-- what a function returned, seen so, is what is read, unless memory ran out
abbrev pub Gives : {X Y : Type 0} → (X → Y) → Result X ReadingFault → Result Y ℕ → Type 0
Gives view (Ok x) read = read ≡ Ok (view x)
Gives view (Err why) read = Fails why read

-- the tree with the tokens behind it, or the place of the fault, is what the reader reads
abbrev pub Reads : {A : Type 0} → Reader A → Tokens → Result (A × Bor Tokens) ReadingFault → Type 0
Reads reader tokens result = Gives (λ x. (x.0, lexemes x.1.now)) result (reader (lexemes tokens))

-- the tokens behind the one that is to pass this test
abbrev pub Passes : (Option Lexeme → Bool) → Tokens → Result (Bor Tokens) ReadingFault → Type 0
Passes test tokens result = Gives (λ x. lexemes x.now) result (expect test (lexemes tokens))

-- a token was taken
abbrev pub Advances : {A : Type 0} → Tokens → Result (A × Bor Tokens) ReadingFault → Type 0
Advances tokens result = IfOk result (λ x. length x.1.now < length tokens)

-- no token was put back
abbrev pub Remains : {A : Type 0} → Tokens → Result (A × Bor Tokens) ReadingFault → Type 0
Remains tokens result = IfOk result (λ x. length x.1.now ≤ length tokens)
