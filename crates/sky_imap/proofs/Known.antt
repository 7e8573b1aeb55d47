-- Which page a fileid belongs to, at the edges.
use Rattle.std.specs.Prelude.{◌≡◌, refl}
use Rattle.sky_imap.specs.PageMap.{page_of}

the_first : page_of 0 ≡ 0
the_first = refl

the_last_of_the_first_page : page_of 2047 ≡ 0
the_last_of_the_first_page = refl

the_first_of_the_next : page_of 2048 ≡ 1
the_first_of_the_next = refl

-- the last fileid of a volume belongs to the last page
the_last : page_of 67108863 ≡ 32767
the_last = refl
