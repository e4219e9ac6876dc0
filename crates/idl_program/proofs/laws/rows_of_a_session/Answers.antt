use Rattle.std.specs.Prelude.{None, Some, if◌then◌else◌}
use Rattle.std.specs.Option.{option_map}
use Rattle.std.proofs.Common.{ap}
use Rattle.idl_session.specs.idl_project.idl_sources.Compile.{compiled_root}
use Rattle.idl_program.proofs.laws.rows_of_a_session.Goals as goal

pub returns-clause-errors : goal.returns-clause-errors
returns-clause-errors c = λ project root h.
    ap (λ b. option_map (λ r. r.rows.diagnostics)
    (if b then Some (compiled_root project.inputs root) else None)) h

pub returns-clause-dump : goal.returns-clause-dump
returns-clause-dump c = λ project root h.
    ap (λ b. option_map (λ r. r.rows.dump)
    (if b then Some (compiled_root project.inputs root) else None)) h

pub returns-clause-listing : goal.returns-clause-listing
returns-clause-listing c = λ project root h.
    ap (λ b. option_map (λ r. r.rows.listing)
    (if b then Some (compiled_root project.inputs root) else None)) h

pub returns-clause-faulty : goal.returns-clause-faulty
returns-clause-faulty c = λ project root h.
    ap (λ b. option_map (λ r. r.rows.is_faulty)
    (if b then Some (compiled_root project.inputs root) else None)) h
