-- Document 01: "The program's lists are Annex II (transfers) and Annex I (cheques) of source document 000" (RULES 5.5),
-- in document order: 156 and 22 countries.
use Rattle.std.specs.Prelude.{ℕ, ◌&&◌, List, ◌++◌, eqb, T, length}
use Rattle.laws.specs.Ascii.{ascii}
use Rattle.fields.specs.Lists.{countries}

abbrev pub annex_ii : List ℕ
annex_ii =
    ascii "AFEGALDZAOAGGQARAMAWAZETAUBSBHBDBBBZBMBT"
    ++ ascii "BOBABWBRBNBIKYCLCNCRCWDODJCISVECERSZFKFO"
    ++ ascii "FJPFGAGMGEGHGIGLGBGTGGGNGYHTHNHKINIDIQIM"
    ++ ascii "ILJMJPYEJEJOKHCMCACVKZQAKEKGCOCDXKKWLALS"
    ++ ascii "LBLYMOMGMWMYMVMLMAMUMXMDMNMEMZNANPNZNIAN"
    ++ ascii "NENGMKOMPKPWPAPGPYPEPHPRCGRWRUSBZMWSSASN"
    ++ ascii "RSSCSLZWSGSOSJLKSHKNZAKRSSSRTJTWTZTHTGTO"
    ++ ascii "TTTDTNTRTMTCUGUAUYUSUZVUAEVNBYCF"

abbrev pub annex_i : List ℕ
annex_i = ascii "ARBOBRCLCRDOSVECGTGBHNCACOMXNIPAPYPEPRUYUSVE"

pub counted : T (eqb (length (countries annex_ii)) 156 && eqb (length (countries annex_i)) 22)
counted = tt
