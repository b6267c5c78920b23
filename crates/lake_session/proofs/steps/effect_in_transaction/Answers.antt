use Rattle.std.proofs.Common.{◌≡◌, ℕ, ◌+◌, Ok, Err}
use Rattle.std.specs.Prelude.{IfOk}
use Rattle.std.proofs.lemmas.Result.{IfOk-weaker}
use Rattle.sql_model.specs.Versions.{Tables}
use Rattle.sql_model.specs.Writing.{result_over}
use Rattle.lake_core.specs.Lakes.{state_of}
use Rattle.lake_session.specs.Effects.{IfRefused, effect_seen}
use Rattle.lake_session.proofs.Parts.{as_next_part, effect_inside, next_is}
use Rattle.lake_session.proofs.steps.effect_in_transaction.Goals as goal

pub returns-clause-form : goal.returns-clause-form
returns-clause-form g c =
    let part = next_is (state_of c.args.lake.now) c.args.session c.transaction.result c.unwrap-part.result c.transaction.ensures c.unwrap-part.ensures in
    IfOk-weaker c.effect_of_statement.result _ _
    (λ made is. effect_inside c.args.statement.now (state_of c.args.lake.now) c.args.session c.lend.result (c.unwrap-part.result.parts + 1) (effect_seen made) c.lend.ensures part is)
    c.effect_of_statement.ensures.form

pub returns-clause-result : goal.returns-clause-result
returns-clause-result g c =
    let part = next_is (state_of c.args.lake.now) c.args.session c.transaction.result c.unwrap-part.result c.transaction.ensures c.unwrap-part.ensures in
    let P : Tables → ℕ → Type 0 = λ lent n. IfOk c.effect_of_statement.result (λ made. result_over lent n c.args.statement.now ≡ Ok (effect_seen made)) in
    as_next_part P (state_of c.args.lake.now) c.args.session c.lend.result (c.unwrap-part.result.parts + 1) c.lend.ensures part c.effect_of_statement.ensures.result

pub returns-clause-refused : goal.returns-clause-refused
returns-clause-refused g c =
    let part = next_is (state_of c.args.lake.now) c.args.session c.transaction.result c.unwrap-part.result c.transaction.ensures c.unwrap-part.ensures in
    let P : Tables → ℕ → Type 0 = λ lent n. IfRefused c.effect_of_statement.result (λ cause. result_over lent n c.args.statement.now ≡ Err cause) in
    as_next_part P (state_of c.args.lake.now) c.args.session c.lend.result (c.unwrap-part.result.parts + 1) c.lend.ensures part c.effect_of_statement.ensures.refused
