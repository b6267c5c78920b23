-- The book of the worked example is kept after each entry, by the laws.
use Rattle.std.proofs.Common.{◌≡◌, ℕ, Bool, true, false, not, ◌&&◌, ◌||◌, cond, List, [], ◌∷◌, ◌++◌}
use Rattle.std.proofs.Common.{None, inl, inr, ◌⊎◌, refl, sym, ap, ◌∙◌, arith}
use Rattle.lake_values.specs.Cells.{hash_step}
use Rattle.lake_values.specs.Spelling.{u64_spelling}
use Rattle.lake_values.specs.declared.names.Name.{Name}
use Rattle.lake_model.specs.declared.entries.Fact.TheVariants as fact
use Rattle.sql_model.specs.declared.replies.Reply.TheVariants.{Wrote}
use Rattle.sql_model.specs.declared.replies.Verb.TheVariants.{Inserted, Deleted}
use Rattle.lake_model.specs.Allowed.{IsAllowed, IsLegalFrom}
use Rattle.lake_values.specs.Names.{is_among, same_name}
use Rattle.lake_model.specs.State.{State, Noted, after, opening, state, state_from}
use Rattle.lake_values.specs.Texts.{same_text}
use Rattle.manifest_block.specs.declared.items.Item.{Item}
use Rattle.manifest_block.specs.declared.items.Item.TheVariants.{Add, Remove}
use Rattle.file_laws.specs.Kept.{Book, IsKept, IsNext, Tells}
use Rattle.file_laws.specs.KeptLaws.{AsksOfCommit, AsksOfCompact, AsksOfWrite}
use Rattle.file_laws.specs.Stands.{files_at}
use Rattle.file_laws.specs.Touching.{Row}
use Rattle.file_laws.proofs.CollectKept.{kept_check, kept_collected}
use Rattle.file_laws.proofs.CompactKept.{kept_compacted}
use Rattle.file_laws.proofs.CommitKept.{kept_commit}
use Rattle.file_laws.proofs.EmptyKept.{kept_empty}
use Rattle.file_laws.proofs.EntryKept.{kept_as_it_is, kept_began}
use Rattle.file_laws.proofs.ReplayLemmas.{name_tells}
use Rattle.file_laws.proofs.TellKept.{kept_tells}
use Rattle.file_laws.proofs.WriteKept.{kept_write}
use Rattle.std.proofs.lemmas.List.Elements.{All-from_recursion}
use Rattle.file_laws.specs.Example.{table, file_of_two, file_of_one, new_file, merged_file, blobs}
use Rattle.file_laws.specs.Example.{inserts, mark, deletes, entry1, entry2, entry3, entry4, entry5}
use Rattle.file_laws.specs.Example.{entry6, entry7, entry8, entry9, entry10, entries1, book0}
use Rattle.file_laws.specs.Example.{entries2, book2, inserting, empty_table, nothing, written}
use Rattle.file_laws.specs.Example.{entries3, book3, inserted, commit2, entries4, book4, entries5}
use Rattle.file_laws.specs.Example.{book5, entries6, book6, marked_row, full_table, is_row, first}
use Rattle.file_laws.specs.Example.{second, entries7, book7, entries8, book8, first_after, commit3}
use Rattle.file_laws.specs.Example.{entries9, book9, entries10, left_file, file_after, entry11}
use Rattle.file_laws.specs.Example.{checkpoint, entry12, entry13, entry14, inserts_again, entry15}
use Rattle.file_laws.specs.Example.{entry16, entry17, new_mark, entry18, entries11, book11}
use Rattle.file_laws.specs.Example.{entries12, book12, fewer_blobs, entries13, book13, entries14}
use Rattle.file_laws.specs.Example.{book14, adding, table_left, written_alone, entries15, book15}
use Rattle.file_laws.specs.Example.{adding_after, commit4, entries16, book16, entries17, book17}
use Rattle.file_laws.specs.Example.{compacting, merge, commit5, entries18, book18}

legal_from : (st : State) (xs : List Noted) (e : Noted) → IsLegalFrom true st xs → IsAllowed true
    (state_from st xs) e → IsLegalFrom true st (xs ++ e ∷ [])
legal_from st [] e legal may = (may, tt)
legal_from st (x ∷ xs) e legal may = (legal.0, legal_from (after st x) xs e legal.1 may)

next : (k : Book) (entries : List Noted) (e : Noted) → IsKept k entries → IsAllowed true
    (state entries) e → IsNext entries e e.entry.fact
next k entries e kept may =
    record { legal = legal_from opening entries e kept.legal may; fact = refl }

and_true : (a : Bool) → a ≡ (a && true)
and_true true = refl
and_true false = refl

or_false : (a : Bool) → (a || false) ≡ a
or_false true = refl
or_false false = refl

kept1 : IsKept book0 entries1
kept1 =
    (kept_as_it_is book0 [] entry1 entry1.entry.fact (kept_empty blobs) refl
    (next book0 [] entry1 (kept_empty blobs) (refl, refl, refl))).kept

kept2 : IsKept book2 entries2
kept2 =
    (kept_began book0 entries1 entry2 false 1 1 kept1
    (next book0 entries1 entry2 kept1 (refl, refl, refl))).kept

asks3 : AsksOfWrite book2 (state entries2) 0 inserting (Wrote Inserted 2 None) inserts empty_table
    nothing written
unfolding hash_step u64_spelling
asks3 = record {
  opened = refl;
  table = refl;
  counted = refl;
  removed = tt;
  added = ((refl, refl, refl), tt);
  one_part = (tt, tt);
  removes = λ g. refl;
  adds = λ g. omega arith;
  vectors = tt;
  written = (refl, (refl, tt));
  other = (((refl, refl), tt), (tt, tt));
  blobs = (
    (record { own = refl; of_part = refl; here = refl }, refl),
    ((record { own = refl; of_part = refl; here = refl }, refl), tt),
  );
}

kept3 : IsKept book3 entries3
kept3 =
    (kept_write book2 entries2 entry3 inserting (Wrote Inserted 2 None) inserts empty_table nothing
    written kept2 (next book2 entries2 entry3 kept2 (record {
      removes = ([], λ g. refl);
      adds
          = (refl, tt);
      once = (All-from_recursion _ [] tt, tt);
      filled = (refl, tt);
      replies
          = tt;
    })) asks3).kept

one_of_two : (name : List ℕ) (r : Row) (items : List Item) (b : Bool) →
    ((cond b (r ∷ []) [] ≡ []) × (cond b items [] ≡ [])) ⊎
    ((q : Row) × (cond b (r ∷ []) [] ≡ q ∷ []))
one_of_two name r items true = inr (r, refl)
one_of_two name r items false = inl (refl, refl)

asks4 : AsksOfCommit book3 (state entries3) 0 inserted (file_of_two ∷ file_of_one ∷ []) []
    (commit2 ∷ [])
asks4 = record {
  opened = refl;
  rows = record {
    rows = (
      record {
        seq = refl;
        txn = refl;
        items = refl;
        manifest = refl;
        marks = refl;
        names =
            record {
              gains = λ n. and_true (is_among n (file_of_two ∷ file_of_one ∷ []));
              loses = λ
                  n. refl;
            };
      },
      tt,
    );
    each = λ name. elim (same_text table name) as (λ b. ((cond b (commit2 ∷ []) [] ≡ []) × (cond b
        (Add table 2 1 file_of_two 1 ∷ cond b (Add table 15 1 file_of_one 1 ∷ []) [])
        (cond b (Add table 15 1 file_of_one 1 ∷ []) []) ≡ [])) ⊎
        ((q : Row) × (cond b (commit2 ∷ []) [] ≡ q ∷ [])))
        [ true ↦ inr (commit2, refl) | false ↦ inl (refl, refl) ];
    added = λ n. or_false (is_among n (file_of_two ∷ file_of_one ∷ []));
    dropped = λ n. refl;
  };
}

kept4 : IsKept book4 entries4
kept4 =
    (kept_commit book3 entries3 entry4 inserted 2 (file_of_two ∷ file_of_one ∷ []) []
    (commit2 ∷ []) kept3 (next book3 entries3 entry4 kept3
    (record { changed = refl; free = refl; next = refl; renames = refl; drops = refl }))
    asks4).kept

kept5 : IsKept book5 entries5
kept5 =
    (kept_began book4 entries4 entry5 true 2 2 kept4
    (next book4 entries4 entry5 kept4 (refl, refl, refl))).kept

kept6 : IsKept book6 entries6
kept6 =
    (kept_began book5 entries5 entry6 true 3 2 kept5
    (next book5 entries5 entry6 kept5 (refl, refl, refl))).kept

asks7 : AsksOfWrite book6 (state entries6) 1 first (Wrote Deleted 1 None) (deletes 1 15) full_table
    (is_row 1) []
unfolding hash_step u64_spelling
asks7 =
    record {
      opened = refl;
      table = refl;
      counted = refl;
      removed = (refl, tt);
      added = tt;
      one_part = tt;
      removes = λ g. refl;
      adds = λ g. refl;
      vectors = (tt, (tt, tt));
      written =
          tt;
      other = tt;
      blobs = (tt, tt);
    }

may7 : IsAllowed true (state entries6) entry7
unfolding hash_step u64_spelling
may7 =
    record {
      removes = (marked_row 2 2 ∷ [], λ g. refl);
      adds = tt;
      once = tt;
      filled = tt;
      replies
          = tt;
    }

kept7 : IsKept book7 entries7
kept7 =
    (kept_write book6 entries6 entry7 first (Wrote Deleted 1 None) (deletes 1 15) full_table
    (is_row 1) [] kept6 (next book6 entries6 entry7 kept6 may7) asks7).kept

asks8 : AsksOfWrite book7 (state entries7) 2 second (Wrote Deleted 1 None) (deletes 2 2) full_table
    (is_row 2) []
unfolding hash_step u64_spelling
asks8 =
    record {
      opened = refl;
      table = refl;
      counted = refl;
      removed = (refl, tt);
      added = tt;
      one_part = tt;
      removes = λ g. refl;
      adds = λ g. refl;
      vectors = (tt, (tt, tt));
      written =
          tt;
      other = tt;
      blobs = (tt, tt);
    }

may8 : IsAllowed true (state entries7) entry8
unfolding hash_step u64_spelling
may8 =
    record {
      removes = (marked_row 1 15 ∷ [], λ g. omega arith);
      adds = tt;
      once = tt;
      filled = tt;
      replies = tt;
    }

kept8 : IsKept book8 entries8
kept8 =
    (kept_write book7 entries7 entry8 second (Wrote Deleted 1 None) (deletes 2 2) full_table
    (is_row 2) [] kept7 (next book7 entries7 entry8 kept7 may8) asks8).kept

not_both : (n : Name) → same_name n file_of_two ≡ true → same_name n file_of_one ≡ true → ⊥
not_both n e f =
    let same : file_of_two ≡ file_of_one = sym (name_tells n file_of_two e) ∙ name_tells n
    file_of_one f in let tasks : ◌≡◌ {A = ℕ} 1 2 = ap (λ (m : Name). m.task) same in absurd cc

gains3 : (a b : Bool) → false ≡ ((a || false) && not (a || (b || false)))
gains3 true b = refl
gains3 false b = refl

loses3 : (a b : Bool) → (a ≡ true → b ≡ true → ⊥) → (b || false) ≡
    ((a || (b || false)) && not (a || false))
loses3 true true apart = absurd (apart refl refl)
loses3 true false apart = refl
loses3 false true apart = refl
loses3 false false apart = refl

asks9 : AsksOfCommit book8 (state entries8) 1 first_after [] (file_of_one ∷ []) (commit3 ∷ [])
asks9 = record {
  opened = refl;
  rows = record {
    rows = (
      record {
        seq = refl;
        txn = refl;
        items = refl;
        manifest = refl;
        marks = refl;
        names =
            record {
              gains = λ n. gains3 (same_name n file_of_two) (same_name n file_of_one);
              loses
                  = λ n. loses3 (same_name n file_of_two) (same_name n file_of_one) (not_both n);
            };
      },
      tt,
    );
    each = λ name. one_of_two name commit3 (Remove table file_of_one ∷ []) (same_text table name);
    added = λ n. refl;
    dropped = λ n. or_false (is_among n (file_of_one ∷ []));
  };
}

kept9 : IsKept book9 entries9
kept9 =
    (kept_commit book8 entries8 entry9 first_after 3 [] (file_of_one ∷ []) (commit3 ∷ []) kept8
    (next book8 entries8 entry9 kept8
    (record { changed = refl; free = refl; next = refl; renames = refl; drops = refl }))
    asks9).kept

kept10 : IsKept book9 entries10
kept10 =
    (kept_as_it_is book9 entries9 entry10 (fact.Conflict 3) kept9 refl
    (next book9 entries9 entry10 kept9 refl)).kept

pub tells : Tells book9 entries10
tells = kept_tells book9 entries10 kept10

-- the file that is left

pub files_left : files_at book9.rows 3 table ≡ left_file ∷ []
files_left = refl

kept11 : IsKept book11 entries11
kept11 =
    (kept_began book9 entries10 entry11 false 4 3 kept10
    (next book9 entries10 entry11 kept10 (refl, refl, refl))).kept

kept12 : IsKept book12 entries12
kept12 =
    (kept_check book11 entries11 entry12 checkpoint kept11
    (next book11 entries11 entry12 kept11 (refl, refl, refl, refl))
    (record { begun = refl; files = refl })).kept

kept13 : IsKept book13 entries13
kept13 =
    (kept_collected book12 entries12 entry13 (file_of_one ∷ []) 3 fewer_blobs kept12
    (next book12 entries12 entry13 kept12 (refl, (omega arith, omega arith, tt, refl, refl)))
    (λ n held free. (ap not free, (refl, refl)))).kept

kept14 : IsKept book14 entries14
kept14 =
    (kept_began book13 entries13 entry14 false 5 3 kept13
    (next book13 entries13 entry14 kept13 (refl, refl, refl))).kept

asks15 : AsksOfWrite book14 (state entries14) 0 adding (Wrote Inserted 1 None) inserts_again
    table_left nothing written_alone
unfolding hash_step u64_spelling
asks15 =
    record {
      opened = refl;
      table = refl;
      counted = refl;
      removed = tt;
      added =
          ((refl, refl, refl), tt);
      one_part = (tt, tt);
      removes = λ g. refl;
      adds = λ g. refl;
      vectors = (tt, tt);
      written = (refl, tt);
      other = (tt, tt);
      blobs =
          ((record { own = refl; of_part = refl; here = refl }, refl), tt);
    }

kept15 : IsKept book15 entries15
kept15 =
    (kept_write book14 entries14 entry15 adding (Wrote Inserted 1 None) inserts_again table_left
    nothing written_alone kept14 (next book14 entries14 entry15 kept14 (record {
      removes =
          (_, λ g. refl);
      adds = (refl, tt);
      once = (All-from_recursion _ [] tt, tt);
      filled
          = (refl, tt);
      replies = tt;
    })) asks15).kept

gains4 : (a b : Bool) → (a ≡ true → b ≡ true → ⊥) → (b || false) ≡
    ((a || (b || false)) && not (a || false))
gains4 a b apart = loses3 a b apart

loses4 : (a b : Bool) → false ≡ ((a || false) && not (a || (b || false)))
loses4 a b = gains3 a b

apart4 : (n : Name) → same_name n file_of_two ≡ true → same_name n new_file ≡ true → ⊥
apart4 n e f =
    let same : file_of_two ≡ new_file = sym (name_tells n file_of_two e) ∙ name_tells n new_file f
    in let numbers : ◌≡◌ {A = ℕ} 1 5 = ap (λ (m : Name). m.txn) same in absurd cc

asks16 : AsksOfCommit book15 (state entries15) 0 adding_after (new_file ∷ []) [] (commit4 ∷ [])
asks16 = record {
  opened = refl;
  rows = record {
    rows = (
      record {
        seq = refl;
        txn = refl;
        items = refl;
        manifest = refl;
        marks = refl;
        names =
            record {
              gains = λ n. gains4 (same_name n file_of_two) (same_name n new_file)
                  (apart4 n);
              loses = λ n. loses4 (same_name n file_of_two) (same_name n new_file);
            };
      },
      tt,
    );
    each = λ name. one_of_two name commit4 (Add table 2 1 new_file 1 ∷ []) (same_text table name);
    added = λ n. or_false (is_among n (new_file ∷ []));
    dropped = λ n. refl;
  };
}

kept16 : IsKept book16 entries16
kept16 =
    (kept_commit book15 entries15 entry16 adding_after 4 (new_file ∷ []) [] (commit4 ∷ []) kept15
    (next book15 entries15 entry16 kept15
    (record { changed = refl; free = refl; next = refl; renames = refl; drops = refl }))
    asks16).kept

kept17 : IsKept book17 entries17
kept17 =
    (kept_began book16 entries16 entry17 false 6 4 kept16
    (next book16 entries16 entry17 kept16 (refl, refl, refl))).kept

apart5 : (n : Name) (old : Name) → ◌≡◌ {A = Bool} (same_name merged_file old) false → same_name n
    merged_file ≡ true → same_name n old ≡ true → ⊥
apart5 n old off e f =
    let same : merged_file ≡ old = sym (name_tells n merged_file e) ∙ name_tells n old f in let yes
    : same_name merged_file old ≡ true = ap (λ (m : Name). same_name merged_file m) (sym same)
    in let no : true ≡ false = sym yes ∙ off in absurd cc

gains5 : (m a b : Bool) → (m ≡ true → a ≡ true → ⊥) → (m ≡ true → b ≡ true → ⊥) → (m || false) ≡
    ((m || false) && not (a || (b || false)))
gains5 false a b f g = refl
gains5 true true b f g = absurd (f refl refl)
gains5 true false true f g = absurd (g refl refl)
gains5 true false false f g = refl

loses5 : (m a b : Bool) → (m ≡ true → a ≡ true → ⊥) → (m ≡ true → b ≡ true → ⊥) →
    (a || (b || false)) ≡ ((a || (b || false)) && not (m || false))
loses5 true true b f g = absurd (f refl refl)
loses5 true false true f g = absurd (g refl refl)
loses5 true false false f g = refl
loses5 false true b f g = refl
loses5 false false true f g = refl
loses5 false false false f g = refl

asks18 : AsksOfCompact book17 (state entries17) 0 compacting table (2 ∷ []) (mark 2 ∷ new_mark ∷ [])
    (merge ∷ []) (merged_file ∷ []) (file_of_two ∷ new_file ∷ []) (commit5 ∷ [])
asks18 = record {
  opened = refl;
  rows = record {
    rows = (
      record {
        seq = refl;
        txn = refl;
        items = refl;
        manifest = refl;
        marks = refl;
        names = record {
          gains = λ n. gains5 (same_name n merged_file) (same_name n file_of_two)
              (same_name n new_file) (apart5 n file_of_two refl) (apart5 n new_file refl);
          loses = λ n. loses5 (same_name n merged_file) (same_name n file_of_two)
              (same_name n new_file) (apart5 n file_of_two refl) (apart5 n new_file refl);
        };
      },
      tt,
    );
    each = λ name. elim (same_text table name) as (λ b. ((cond b (commit5 ∷ []) [] ≡ []) × (cond b
        (Add table 2 1 merged_file 2 ∷ cond b
        (Remove table file_of_two ∷ cond b (Remove table new_file ∷ []) [])
        (cond b (Remove table new_file ∷ []) [])) (cond b
        (Remove table file_of_two ∷ cond b (Remove table new_file ∷ []) [])
        (cond b (Remove table new_file ∷ []) [])) ≡ [])) ⊎
        ((q : Row) × (cond b (commit5 ∷ []) [] ≡ q ∷ [])))
        [ true ↦ inr (commit5, refl) | false ↦ inl (refl, refl) ];
    added = λ n. or_false (is_among n (merged_file ∷ []));
    dropped = λ n. or_false (is_among n (file_of_two ∷ new_file ∷ []));
  };
  due = refl;
  other = (tt, tt);
  merges = (
    record {
      own = refl;
      here = refl;
      olds = (refl, (refl, tt));
      there =
          (refl, (refl, tt));
      some = refl;
      rows = λ g. refl;
    },
    tt,
  );
}

may18 : IsAllowed true (state entries17) entry18
unfolding hash_step u64_spelling
may18 =
    record {
      single = refl;
      all_due = refl;
      some = λ e. absurd cc;
      all_marks = refl;
      free = refl;
      next = refl;
      renames = refl;
      drops = refl;
    }

pub kept18 : IsKept book18 entries18
kept18 =
    (kept_compacted book17 entries17 entry18 compacting table (2 ∷ []) (mark 2 ∷ new_mark ∷ []) 5
    (merged_file ∷ []) (file_of_two ∷ new_file ∷ []) (merge ∷ []) (commit5 ∷ []) kept17
    (next book17 entries17 entry18 kept17 may18) asks18).kept

pub files_merged : files_at book18.rows 5 table ≡ file_after ∷ []
files_merged = refl
