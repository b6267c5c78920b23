-- The empty book.
use Rattle.std.proofs.Common.{◌≡◌, ℕ, ◌≤◌, true, false, [], refl, sym, arith, subst}
use Rattle.lake_values.specs.Names.{is_among}
use Rattle.lake_model.specs.State.{opening, version_at}
use Rattle.file_laws.specs.Collector.{names_at}
use Rattle.file_laws.specs.KeptLaws.{KeptEmpty}
use Rattle.file_laws.specs.Touching.{is_marked}
use Rattle.file_laws.specs.Stands.{VersionStands}

pub kept_empty : KeptEmpty
kept_empty c = record {
  legal = tt;
  noted = refl;
  agrees = record {
    stands = record {
      some = omega arith;
      order = tt;
      within = tt;
      touching = λ table. tt;
      versions = λ n low high. subst (λ (n : ℕ). VersionStands c [] n (version_at opening n))
          (sym (none n high)) first;
      open_ones = λ session t is. absurd cc;
    };
    numbers = record { apart = tt; open_ones = λ session t is. tt; own_adds = tt };
    given = tt;
    open_items = λ session t is. absurd cc;
    checks = tt;
    checked = tt;
    marks = tt;
    struck = λ n m le is. absurd (let no : false ≡ true = subst
        (λ (x : ℕ). is_marked (version_at opening x).struck m ≡ true) (none n le) is in cc);
    names = record {
      once = λ table. tt;
      turns = λ table. tt;
      own = tt;
      one_table = λ name one other is no. absurd cc;
      versions = λ version name low high. subst
          (λ (n : ℕ). false ≡ is_among name (names_at opening n)) (sym (none version high)) refl;
    };
    blobs = λ version table low high. tt;
  };
}
  where
    none : (n : ℕ) → n ≤ 0 → n ≡ 0
    none n le = omega (arith, le)

    first : VersionStands c [] 0 (version_at opening 0)
    first = record {
      each = λ table. record
          { same = λ g. refl; vectors = tt; filled = tt; one_each = λ mark. omega arith };
      up_to = λ table. record { of_files = tt; of_worn = tt };
    }
