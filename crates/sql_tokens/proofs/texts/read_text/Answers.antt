use Rattle.std.proofs.Common.{◌≡◌, ◌+◌, ◌∙◌, false, List, ℕ, Option, sym, ap, take}
use Rattle.std.proofs.lemmas.Result.{IfOk-weaker}
use Rattle.sql_tokens.specs.Tokens.{closing, closed_text, text, text_to, undoubled}
use Rattle.sql_tokens.proofs.Plain.{undoubled-plain}
use Rattle.sql_tokens.proofs.texts.read_text.Goals as goal

pub returns-clause-value : goal.returns-clause-value
unfolding text
returns-clause-value c =
    let quote = c.in-Some.quote in
    let bytes = c.args.bytes.now in
    let plain : undoubled false (take quote bytes) ≡ c.split_at.result.0.now =
    ap (λ (xs : List ℕ). undoubled false xs) (sym c.split_at.ensures.front)
    ∙ undoubled-plain c.split_at.result.0.now (sym c.contains.ensures.value ∙ c.if-contains.false) in
    let e : closed_text c.split_at.result.0.now (quote + 2) ≡ text_to bytes (closing 0 false bytes) =
    ap (λ (xs : List ℕ). closed_text xs (quote + 2)) (sym plain)
    ∙ ap (λ (q : Option ℕ). text_to bytes q) c.in-Some.ensures.value in
    IfOk-weaker c.closed_text-2.result (λ read. read ≡ closed_text c.split_at.result.0.now (quote + 2)) (λ read. read ≡ text bytes)
    (λ read value. value ∙ e) c.closed_text-2.ensures.value
