-- Reading what clap found.
use Rattle.std.proofs.Common.{◌≡◌, List, ap, ap₂, ◌∙◌, true, false, codes, Option, Some, None, option_map}
use Rattle.std.specs.Box.{box_value}
use Rattle.std.specs.Str.{bytes_eq}
use Rattle.clap.specs.Words.{Row, Text, found_of, first_value, rows_of, subcommand_name_of, subcommand_rows, subcommand_rows_of}
use Rattle.clap.specs.declared.ArgMatches.{ArgMatches}
use Rattle.clap.specs.declared.ArgMatches.TheViews.{out-ArgMatches, out-SubCommand}
use Rattle.clap.proofs.WalkLemmas.{first_value-rows}
use Rattle.genie_words.specs.Shapes.{Shape, found_shape, make_shape, file_shape}

pub named_rows : (m : ArgMatches) (n : Text) (rows : List Row) → Some n ≡ subcommand_name_of m → Some rows ≡ option_map (λ p. p.1) (subcommand_rows_of m) → subcommand_rows_of m ≡ Some (n, rows)
named_rows m n rows = elim (out-ArgMatches m).subcommand as (λ o. Some n ≡ option_map (λ b. (out-SubCommand (box_value b)).name.now) o → Some rows ≡ option_map (λ (p : Text × List Row). p.1) (subcommand_rows o) → subcommand_rows o ≡ Some (n, rows)) [
  | None ↦ λ a b. absurd (cc)
  | Some b ↦ λ a b. cc
]

pub wish_made : (m found : ArgMatches) (n : Text) (seed rounds : Option Text) (w : Option Shape) → Some n ≡ subcommand_name_of m → Some (rows_of (found_of found)) ≡ option_map (λ p. p.1) (subcommand_rows_of m)
    → bytes_eq n (codes "make") ≡ true → seed ≡ first_value (found_of found) (codes "seed") → rounds ≡ first_value (found_of found) (codes "rounds") → w ≡ make_shape seed rounds → w ≡ found_shape (subcommand_rows_of m)
wish_made m found n seed rounds w a b t s r e =
    let rows = named_rows m n (rows_of (found_of found)) a b in
    let s' = s ∙ first_value-rows (found_of found) (codes "seed") in
    let r' = r ∙ first_value-rows (found_of found) (codes "rounds") in
    rw (rows, t) (e ∙ ap₂ make_shape s' r')

pub wish_single : (m found : ArgMatches) (n : Text) (file : Option Text) (w : Option Shape) → Some n ≡ subcommand_name_of m → Some (rows_of (found_of found)) ≡ option_map (λ p. p.1) (subcommand_rows_of m)
    → bytes_eq n (codes "make") ≡ false → file ≡ first_value (found_of found) (codes "file") → w ≡ file_shape n file → w ≡ found_shape (subcommand_rows_of m)
wish_single m found n file w a b t f e =
    let rows = named_rows m n (rows_of (found_of found)) a b in
    let f' = f ∙ first_value-rows (found_of found) (codes "file") in
    rw (rows, t) (e ∙ ap (file_shape n) f')
