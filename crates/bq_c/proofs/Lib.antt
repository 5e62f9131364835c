mod Laid
mod Lasts
mod SeatAt
mod SeatGoes
