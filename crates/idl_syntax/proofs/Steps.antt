-- What is read after something was read.
use Rattle.std.proofs.Common.{◌≡◌, ℕ, Result, Ok, ap}
use Rattle.idl_syntax.specs.Gives.{Fails}
use Rattle.idl_syntax.specs.declared.fault.ReadingFault.{ReadingFault}
use Rattle.idl_syntax.specs.declared.fault.ReadingFault.TheVariants as fault
use Rattle.idl_tree.specs.Lexeme.{Lexemes}
use Rattle.idl_tree.specs.reading.Reading.{Reader, ◌>>=◌}

-- where reading fails, nothing is read after it
step_fails : {A B : Type 0} (why : ReadingFault) (read : Result A ℕ) (next : A → Result B ℕ) → Fails why read → Fails why (read >>= next)
step_fails fault.Memory read next f = f
step_fails (fault.NoTree left) read next f = ap (λ r. r >>= next) f

abbrev made : {A B : Type 0} → (A → B) → A × Lexemes → Result (B × Lexemes) ℕ
made f x = Ok (f x.0, x.1)

-- an operation whose context can't be read
pub context_fails : {P R C O : Type 0} (opening : Result Lexemes ℕ) (parameters : Reader P) (closing : Lexemes → Result Lexemes ℕ) (raises : Reader R) (context : Reader C) (operation : P → R → C → O)
    (why : ReadingFault) (ts ts1 ts2 ts3 : Lexemes) (p : P) (r : R) → opening ≡ Ok ts → parameters ts ≡ Ok (p, ts1) → closing ts1 ≡ Ok ts2 → raises ts2 ≡ Ok (r, ts3) → Fails why (context ts3)
    → Fails why (opening >>= λ rest. parameters rest >>= λ ps. closing ps.1 >>= λ rest2. raises rest2 >>= λ rs. context rs.1 >>= made (operation ps.0 rs.0))
context_fails opening parameters closing raises context operation why ts ts1 ts2 ts3 p r opened listed closed raised f =
    rw (opened, listed, closed, raised) (step_fails why (context ts3) (made (operation p r)) f)
