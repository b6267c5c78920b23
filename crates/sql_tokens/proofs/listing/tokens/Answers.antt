use Rattle.std.proofs.Common.{◌≡◌, ◌++◌, ◌∷◌, [], ◌∙◌, List, length, map, sym, ap, subst, append_assoc}
use Rattle.sql_tokens.specs.declared.lexemes.Next.{Next}
use Rattle.sql_tokens.specs.declared.lexemes.Next.TheVariants as next
use Rattle.sql_tokens.specs.declared.listing.Token.{Token}
use Rattle.sql_tokens.specs.Listing.{AreInOrder, token_of}
use Rattle.sql_tokens.specs.Scans.{Scan, IsBehind, begun, scan_at}
use Rattle.sql_tokens.proofs.Order.{AreInOrder-wider, AreInOrder-push}
use Rattle.sql_tokens.proofs.listing.tokens.Goals as goal

pub tokens-preserved : goal.tokens-preserved
tokens-preserved c =
    let bytes = c.args.bytes.now in
    let lexed = c.in-Token.lexed in
    let stands : scan_at c.tokens.from bytes ≡ begun (next.Token lexed) bytes = c.in_ok-lexed.ensures.next ∙ ap (λ (n : Next). begun n bytes) c.in-Token.is in
    let made : c.in_ok-token_of-in-Token.field-0 ≡ token_of lexed = c.in_ok-token_of-in-Token.ensures in
    let pushed : c.push.new.self.items ≡ c.tokens.list.items ++ token_of lexed ∷ [] = rw (← made) c.in_ok-push-in-Token.ensures.items in
    let behind = (let P : Next → Type 0 = λ n. IsBehind c.tokens.from (length bytes) n in subst P c.in-Token.is c.in_ok-lexed.ensures.behind) in
    record {
      within = behind.2;
      tokens =
          c.tokens.invariant.tokens
          ∙ ap (λ (s : Scan). c.tokens.list.items ++ map token_of s.tokens) stands
          ∙ sym (append_assoc c.tokens.list.items (token_of lexed ∷ []) (map token_of (scan_at lexed.end bytes).tokens))
          ∙ ap (λ (xs : List Token). xs ++ map token_of (scan_at lexed.end bytes).tokens) (sym pushed);
      refused = c.tokens.invariant.refused ∙ ap (λ (s : Scan). s.refused) stands;
      in_order = (let P : List Token → Type 0 = λ xs. AreInOrder 0 lexed.end xs in
          subst P (sym pushed) (AreInOrder-push 0 c.tokens.from c.tokens.list.items (token_of lexed) c.tokens.invariant.in_order behind.0 behind.1));
    }

pub returns-in-End-clause-in_order : goal.returns-in-End-clause-in_order
returns-in-End-clause-in_order c = AreInOrder-wider 0 c.tokens.from (length c.args.bytes.now) c.tokens.list.items c.tokens.invariant.in_order c.tokens.invariant.within
