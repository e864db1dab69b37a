-- What is known of the program's input: the reader at its end was handed pieces, one after the other, and nothing else. What
-- a read brings is not said: the kit's contract of it is silent there.
use Rattle.std.specs.Prelude.{ℕ, refl, List, [], ◌∷◌, ◌++◌}
use Rattle.reader.specs.declared.Reader.{Reader}
use Rattle.reader.specs.Cuts.{Cut}
use Rattle.reader.proofs.Reading.{fed_more, lent_more}
use Rattle.report.specs.Annexes.{annex_i, annex_ii}
use Rattle.report.specs.Report.{StartedAs, ReadOnAs, HasRead}

abbrev pub Reads : Reader → Type 0
Reads r = (pieces : List Cut) × HasRead pieces r

pub none_read : (r : Reader) → StartedAs r → Reads r
none_read r s = ([], record { first = r; started = s; lists = tt; read = refl })

pub one_more : (r next : Reader) (piece : List ℕ) → Reads r → ReadOnAs r piece next → Reads next
one_more r next piece (pieces, h) fed =
    let cut : Cut = record { bytes = piece; transfer = annex_ii; cheque = annex_i } in (
      pieces ++ (cut ∷ []),
      record {
        first = h.first;
        started = h.started;
        lists = lent_more annex_ii annex_i pieces cut h.lists (refl, refl);
        read = fed_more h.first pieces r cut next h.read fed;
      },
    )
