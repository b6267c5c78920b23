-- Replaying items and manifests one after the other, as loops do.
use Rattle.std.proofs.Common.{◌≡◌, ℕ, ◌+◌, ◌<◌, true, false, List, [], ◌∷◌, ◌++◌, length, get_or}
use Rattle.std.proofs.Common.{drop, refl, sym, ap, ◌∙◌}
use Rattle.std.specs.List.{flat_map}
use Rattle.std.proofs.lemmas.List.{drop_more}
use Rattle.std.proofs.lemmas.List.Elements.{filter-append}
use Rattle.lake_values.specs.Texts.{same_text}
use Rattle.manifest_block.specs.declared.items.Item.{Item}
use Rattle.table_snapshot.specs.declared.files.Dated.{Dated}
use Rattle.table_snapshot.specs.declared.files.FileRow.{FileRow}
use Rattle.table_snapshot.specs.Files.{after_item, item_table, items_of, items_in, replay}
use Rattle.table_snapshot.specs.Files.{replay_dated}

replay-append : (seq : ℕ) (is js : List Item) (files : List FileRow) → replay seq (is ++ js) files ≡
    replay seq js (replay seq is files)
replay-append seq [] js files = refl
replay-append seq (i ∷ is) js files = replay-append seq is js (after_item seq files i)

-- an item of the table

pub takes_item : (seq : ℕ) (table : List ℕ) (items : List Item) (k : ℕ) (item : Item)
    (files next total : List FileRow)
    → k < length items → item ≡ get_or items k item → same_text (item_table item) table ≡ true →
    next ≡ after_item seq files item
    → replay seq (items_of table (drop k items)) files ≡ total → replay seq
    (items_of table (drop (k + 1) items)) next ≡ total
takes_item seq table items k item files next total lt is its step so_far =
    let here : drop k items ≡ item ∷ drop (k + 1) items = drop_more items k item lt ∙ ap
    (λ (i : Item). i ∷ drop (k + 1) items) (sym is) in
    let taken : items_of table (item ∷ drop (k + 1) items) ≡ item ∷ items_of table
    (drop (k + 1) items) = rw its refl in
    ap (replay seq (items_of table (drop (k + 1) items))) step
    ∙ sym (ap (λ (is : List Item). replay seq is files) (ap (items_of table) here ∙ taken))
    ∙ so_far

-- an item of another table

pub skips_item : (seq : ℕ) (table : List ℕ) (items : List Item) (k : ℕ) (item : Item)
    (files total : List FileRow)
    → k < length items → item ≡ get_or items k item → same_text (item_table item) table ≡ false
    → replay seq (items_of table (drop k items)) files ≡ total → replay seq
    (items_of table (drop (k + 1) items)) files ≡ total
skips_item seq table items k item files total lt is other so_far =
    let here : drop k items ≡ item ∷ drop (k + 1) items = drop_more items k item lt ∙ ap
    (λ (i : Item). i ∷ drop (k + 1) items) (sym is) in
    let left : items_of table (item ∷ drop (k + 1) items) ≡ items_of table (drop (k + 1) items) = rw
    other refl in
    sym (ap (λ (is : List Item). replay seq is files) (ap (items_of table) here ∙ left)) ∙ so_far

pub takes_block : (seq : ℕ) (table : List ℕ) (blocks : List (List Item)) (k : ℕ) (block : List Item)
    (files next total : List FileRow)
    → k < length blocks → block ≡ get_or blocks k block → next ≡ replay seq (items_of table block)
    files
    → replay seq (items_of table (flat_map (λ b. b) (drop k blocks))) files ≡ total → replay seq
    (items_of table (flat_map (λ b. b) (drop (k + 1) blocks))) next ≡ total
takes_block seq table blocks k block files next total lt is step so_far =
    let rest : List Item = flat_map (λ b. b) (drop (k + 1) blocks) in
    let here : drop k blocks ≡ block ∷ drop (k + 1) blocks = drop_more blocks k block lt ∙ ap
    (λ (b : List Item). b ∷ drop (k + 1) blocks) (sym is) in
    ap (replay seq (items_of table (flat_map (λ b. b) (drop (k + 1) blocks)))) step
    ∙ sym (replay-append seq (items_of table block)
    (items_of table (flat_map (λ b. b) (drop (k + 1) blocks))) files)
    ∙ sym (ap (λ (is : List Item). replay seq is files) (ap
    (λ (bs : List (List Item)). items_of table (flat_map (λ b. b) bs)) here ∙ filter-append
    (λ i. same_text (item_table i) table) block (flat_map (λ b. b) (drop (k + 1) blocks))))
    ∙ so_far

pub takes_manifest : (table : List ℕ) (manifests : List Dated) (k : ℕ) (manifest : Dated)
    (files next total : List FileRow)
    → k < length manifests → manifest ≡ get_or manifests k manifest → next ≡ replay manifest.seq
    (items_of table (items_in manifest)) files
    → replay_dated table (drop k manifests) files ≡ total → replay_dated table
    (drop (k + 1) manifests) next ≡ total
takes_manifest table manifests k manifest files next total lt is step so_far =
    let here : drop k manifests ≡ manifest ∷ drop (k + 1) manifests = drop_more manifests k manifest
    lt ∙ ap (λ (m : Dated). m ∷ drop (k + 1) manifests) (sym is) in
    ap (replay_dated table (drop (k + 1) manifests)) step ∙ sym
    (ap (λ (ms : List Dated). replay_dated table ms files) here) ∙ so_far
