-- The chronicle of the reader's example is legal.
use Rattle.std.proofs.Common.{true, [], ◌∷◌, refl, arith}
use Rattle.std.proofs.lemmas.List.Elements.{All-from_recursion}
use Rattle.lake_values.specs.Cells.{hash_step}
use Rattle.lake_values.specs.Spelling.{u64_spelling}
use Rattle.lake_model.specs.Allowed.{IsLegal}
use Rattle.file_laws.specs.ReaderExample.{afterwards, row_of}

pub legal : IsLegal true afterwards
unfolding hash_step u64_spelling
legal = (
  (refl, refl, refl),
  (
    (refl, refl, refl),
    (
      record {
        removes = ([], λ g. refl);
        adds = (refl, tt);
        once =
            (All-from_recursion _ [] tt, tt);
        filled = (refl, tt);
        replies = tt;
      },
      (
        record { changed = refl; free = refl; next = refl; renames = refl; drops = refl },
        (
          (refl, refl, refl),
          (
            record {
              removes = (row_of 2 ∷ [], λ g. refl);
              adds = (refl, tt);
              once =
                  (All-from_recursion _ [] tt, tt);
              filled = (refl, tt);
              replies = tt;
            },
            (
              record { changed = refl; free = refl; next = refl; renames = refl; drops = refl },
              (
                (refl, refl, refl),
                (
                  (refl, refl, refl),
                  (
                    record {
                      single = refl;
                      all_due = refl;
                      some = λ e. absurd cc;
                      all_marks =
                          refl;
                      free = refl;
                      next = refl;
                      renames = refl;
                      drops = refl;
                    },
                    (
                      (refl, (omega arith, omega arith, (omega arith, tt), refl, refl)),
                      (
                        record {
                          removes = (row_of 2 ∷ row_of 3 ∷ [], λ g. refl);
                          adds = tt;
                          once =
                              tt;
                          filled = tt;
                          replies = refl;
                        },
                        (
                          refl,
                          (
                            (refl, (omega arith, omega arith, tt, refl, refl)),
                            tt,
                          ),
                        ),
                      ),
                    ),
                  ),
                ),
              ),
            ),
          ),
        ),
      ),
    ),
  ),
)
